-- A call of render that is not refused: its rule, and what its loops ask and give.
use Rattle.std.specs.Prelude.{◌≡◌, true, cond, List, ℕ, ◌+◌, ◌≤◌, ◌<◌, ℤ, Float, Option, Some, None}
use Rattle.rules.specs.declared.Steps.{Steps}
use Rattle.rules.specs.declared.Taps.{Taps}
use Rattle.rules.specs.Forms.{Layer, Frames, Motion, Rule}
use Rattle.rules.specs.Literals.{8·0}
use Rattle.rules.specs.Float.{◌⊖◌, ◌⊗◌, signed}
use Rattle.rules.specs.Reading.{distance, gap}
use Rattle.rules.specs.Motion.{row_taps}
use Rattle.rules.specs.Render.{reach, render_rule}
use Rattle.plane.specs.Done.{RowDone, RowsDone}
use Rattle.sample.specs.Points.{Within}
use Rattle.motion.specs.declared.Carried.{Carried}
use Rattle.motion.specs.Moves.{motion_of, Holds}
use Rattle.layer_lent.specs.declared.Lent.{Ghosts}
use Rattle.layer_lent.specs.declared.Plan.{Plan}
use Rattle.render_choice.specs.Kept.{is_within}
use Rattle.render_pixel.specs.Framed.{layer_of, frames_of}
use Rattle.render_pixel.specs.Shown.{byte_by}
use Rattle.render_pixel.specs.declared.Spot.{Spot}
use Rattle.render_rows.specs.declared.Job.{Job}
use Rattle.render_rows.specs.declared.Piece.{Piece}
use Rattle.render_rows.specs.declared.Run.{Run}
use Rattle.lift_rows.specs.Rows.{RowOn, RunAsks}

-- the layer and the plan of a job
abbrev pub layer_in : {X : Type 0} {L : Ghosts X} → Job X L → Layer
layer_in j = layer_of j.frames

abbrev pub plan_in : {X : Type 0} {L : Ghosts X} → Job X L → Plan
plan_in j = j.frames.first.sheet.plan

-- its motion
abbrev pub motion_in : {X : Type 0} {L : Ghosts X} → Job X L → Motion
motion_in j = motion_of j.motion.fields j.motion.lattice.grid

-- and its rule
abbrev pub rule_in : {X : Type 0} {L : Ghosts X} → Job X L → Rule
rule_in j = render_rule (layer_in j) (plan_in j).shape.plane (frames_of j.frames) (motion_in j) j.algo

-- what is done to a pixel that moves by these steps, and whose gap `far` makes up for
unfoldable pub change_by : Layer → (plane : ℕ) → Frames → (ratio : ℕ) → Steps → (apart : Float) → (algo : ℤ) → (x y : ℕ) → Option ℕ
change_by l plane f ratio s apart algo x y = cond (is_within apart (reach ratio s)) (Some (byte_by l plane f s algo x y)) None

abbrev pub distance_in : {X : Type 0} {L : Ghosts X} → Job X L → (x y : ℕ) → ℤ
distance_in j x y = distance (layer_in j) (plan_in j).shape.plane x y

abbrev pub change_in : {X : Type 0} {L : Ghosts X} → Job X L → Steps → (x y : ℕ) → Option ℕ
change_in j s x y =
    let l = layer_in j in
    let p = plan_in j in
    change_by l p.shape.plane (frames_of j.frames) p.span s (gap l p.shape.plane x y) j.algo x y

-- the gap of a stored distance
abbrev pub gap_of : ℤ → Float
gap_of d = signed d ⊗ 8·0 ⊖ 8·0

-- pixels of a row with this stored distance, for which `far` makes up
pub record Near (l : Layer) (plane : ℕ) (far : Float) (y from to : ℕ) (d : ℤ) : Type 0 where
  pub one : (k : ℕ) → from ≤ k → k < to → distance l plane k y ≡ d
  pub near : is_within (gap_of d) far ≡ true

-- the grid's rows around row y, and columns between them
pub record Carrying (m : Motion) (ratio y : ℕ) (down : Taps) (c : Carried) : Type 0 where
  pub rows : Within (row_taps m ratio y) m.grid.1 down
  pub holds : Holds m ratio down c

-- a part of a row is done, and the columns of its last pixel are held
pub record RunDone (rule : Rule) (pitch y from to : ℕ) (m : Motion) (ratio : ℕ) (down : Taps) (count : ℕ) (before after : List ℕ) (r : Run) : Type 0 where
  pub row : RowOn rule pitch y from to count before after r.count
  pub holds : Holds m ratio down r.carried

-- ---- the same of a job

-- a pixel as a piece of a row
abbrev pub only : Taps → Spot → Piece
only down s = record { y = s.y; down = down; from = s.x; to = s.x + 1 }

-- what a piece asks, what it is given, and that it is done
abbrev pub PieceAsks : {X : Type 0} {L : Ghosts X} → Job X L → (output : List ℕ) → Piece → (count : ℕ) → Type 0
PieceAsks j output p count = RunAsks (plan_in j) output (record { y = p.y; from = p.from; to = p.to; count = count })

abbrev pub Holding : {X : Type 0} {L : Ghosts X} → Job X L → (y : ℕ) → (down : Taps) → Run → Type 0
Holding j y down run = Carrying (motion_in j) j.motion.lattice.ratio y down run.carried

abbrev pub PieceHolds : {X : Type 0} {L : Ghosts X} → Job X L → Piece → Run → Type 0
PieceHolds j p run = Holding j p.y p.down run

abbrev pub PieceNear : {X : Type 0} {L : Ghosts X} → Job X L → Piece → (d : ℤ) → Type 0
PieceNear j p d = Near (layer_in j) (plan_in j).shape.plane j.far p.y p.from p.to d

abbrev pub PieceDone : {X : Type 0} {L : Ghosts X} → Job X L → Piece → (count : ℕ) → (before after : List ℕ) → Run → Type 0
PieceDone j p count before after r =
    RunDone (rule_in j) (plan_in j).shape.output_pitch p.y p.from p.to (motion_in j) j.motion.lattice.ratio p.down count before after r

-- a row, and all rows
abbrev pub RowIn : {X : Type 0} {L : Ghosts X} → Job X L → (y count : ℕ) → (before after : List ℕ) → (r : ℕ) → Type 0
RowIn j y count before after r = RowDone (rule_in j) (plan_in j).shape.output_pitch y (plan_in j).across count before after r

abbrev pub RowsIn : {X : Type 0} {L : Ghosts X} → Job X L → (before after : List ℕ) → (r : ℕ) → Type 0
RowsIn j before after r = RowsDone (rule_in j) (plan_in j).across (plan_in j).down (plan_in j).shape.output_pitch before after r
