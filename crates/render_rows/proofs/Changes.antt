-- What is done to a pixel by its gap and its steps is what the rule says. Assumes nothing.
use mathlib.Core.Path.{◌≡◌, sym, ap, ◌∙◌}
use mathlib.Core.Bool.{Bool, true, false}
use Prim.Native.Nat.{ℕ, ◌+◌, ◌*◌, ◌/◌, ◌≤◌, ◌<◌}
use native.Mathlib.Nat.{add-mul, add-div_right}
use native.Mathlib.Omega.{arith}
use lib.IntN.{ℤ}
use lib.Ieee.{Float}
use Rattle.rules.specs.declared.Steps.{Steps}
use Rattle.rules.specs.declared.Taps.{Taps}
use Rattle.rules.specs.Forms.{Layer, Frames, Motion, plane_ratio}
use Rattle.rules.specs.Reading.{distance, gap}
use Rattle.rules.specs.Motion.{row_taps, column_taps, steps}
use Rattle.rules.specs.Render.{far, timed, reach, rendered, own_steps, seen, render_rule}
use Rattle.std.specs.Prelude.{Some, None}
use Rattle.plane.specs.Done.{change}
use Rattle.render_choice.specs.Kept.{is_within}
use Rattle.render_pixel.specs.Framed.{frames_of}
use Rattle.render_pixel.specs.Shown.{seen_by, byte_by}
use Rattle.layer_lent.specs.declared.Plan.{Plan}
use Rattle.layer_lent.specs.declared.Lent.{Ghosts}
use Rattle.layer_lent.specs.Lent.{lay, Planned, Held}
use Rattle.layer_lent.proofs.Plans.{span_is}
use Rattle.layer_cell.specs.Cells.{CellEnd}
use Rattle.motion.specs.declared.Carried.{Carried}
use Rattle.motion.specs.Moves.{Carries, mixed_steps}
use Rattle.motion.proofs.Fields.{carried_steps}
use Rattle.render_rows.specs.declared.Job.{Job}
use Rattle.render_rows.specs.Jobs.{layer_in, plan_in, motion_in, rule_in, distance_in, change_in, change_by, gap_of, Near}

module _ (l : Layer) (plane : ℕ) (f : Frames) (ratio : ℕ) (s : Steps) (gap : Float) (algo : ℤ) (x y : ℕ) where
  pub put_is : is_within gap (reach ratio s) ≡ true → Some (byte_by l plane f s algo x y) ≡ change_by l plane f ratio s gap algo x y
  unfolding change_by
  put_is t = sym (simp t)

  pub keep_is : is_within gap (reach ratio s) ≡ false → None ≡ change_by l plane f ratio s gap algo x y
  unfolding change_by
  keep_is t = sym (simp t)

module _ (l : Layer) (plane : ℕ) (f : Frames) (m : Motion) (algo : ℤ) (x y : ℕ) where
  -- within `far` it goes by the pixel's own steps
  pub change_is : (old ratio : ℕ) (s : Steps) → ratio ≡ plane_ratio l plane → s ≡ own_steps l plane f m x y → is_within (gap l plane x y) (far m) ≡ true
      → change_by l plane f ratio s (gap l plane x y) algo x y ≡ change (render_rule l plane f m algo) x y old
  unfolding change_by change render_rule rendered byte_by seen_by seen
  change_is old ratio s r e t = rw (r, e, t)

  -- and beyond it nothing is written
  pub far_is : is_within (gap l plane x y) (far m) ≡ false → (render_rule l plane f m algo).writes x y ≡ false
  unfolding render_rule rendered
  far_is t = rw t

-- ---- by the stored distance, and by the columns that are carried

module _ {X : Type 0} {L : Ghosts X} (j : Job X L) where
  -- pixels with one stored distance lie within `far`, or beyond it
  gap-far : (x y : ℕ) (d : ℤ) (t : Bool) → distance_in j x y ≡ d → is_within (gap_of d) j.far ≡ t
      → is_within (gap (layer_in j) (plan_in j).shape.plane x y) (far (motion_in j)) ≡ t
  unfolding gap
  gap-far x y d t e h = rw (e, ← j.far_is) h

  pub pixel_is : (x y old : ℕ) (d : ℤ) (down : Taps) (c : Carried) (t s : Steps) → Near (layer_in j) (plan_in j).shape.plane j.far y x (x + 1) d
      → down ≡ row_taps (motion_in j) j.motion.lattice.ratio y
      → Carries (motion_in j) j.motion.lattice.ratio down (column_taps (motion_in j) j.motion.lattice.ratio x) c → t ≡ mixed_steps c
      → s ≡ timed (plan_in j).shape.time t → change_in j s x y ≡ change (rule_in j) x y old
  unfolding own_steps
  pixel_is x y old d down c t s near rows carries mixed so =
      let p = plan_in j in
      let m = motion_in j in
      let ratio = span_is p j.frames.first.sheet.sound.planned in
      let moved = mixed ∙ carried_steps m j.motion.lattice.ratio x y c (rw rows at carries) ∙ ap (λ (r : ℕ). steps m r x y) (j.span ∙ ratio) in
      let near = gap-far x y d true (near.one x (omega arith) (omega arith)) near.near in
      change_is (layer_in j) p.shape.plane (frames_of j.frames) m j.algo x y old p.span s ratio (so ∙ ap (timed p.shape.time) moved) near

  pub far_cell : (y from to : ℕ) (d : ℤ) → ((k : ℕ) → from ≤ k → k < to → distance_in j k y ≡ d)
      → is_within (gap_of d) j.far ≡ false → (k : ℕ) → from ≤ k → k < to → (rule_in j).writes k y ≡ false
  far_cell y from to d one t k low high = far_is _ _ _ _ _ k y (gap-far k y d false (one k low high) t)

-- a part of a part
pub near_part : {l : Layer} {plane : ℕ} {far : Float} {y from to : ℕ} {d : ℤ} (x end : ℕ) → Near l plane far y from to d → from ≤ x → end ≤ to
    → Near l plane far y x end d
near_part x end near low high = record { one = λ k above below. near.one k (omega arith) (omega arith); near = near.near }

-- the pixels of a row in one cell have one stored distance
pub cell_one : (p : Plan) → Planned p → (held : Held) (y from to : ℕ) (d : ℤ) → CellEnd from p.side p.across to
    → d ≡ distance (lay p.shape held) p.shape.plane from y
    → (k : ℕ) → from ≤ k → k < to → distance (lay p.shape held) p.shape.plane k y ≡ d
unfolding distance
cell_one p h held y from to d cell is k low high = rw (is, rw h.is at (cell.same k low high))

-- where the cell after one that begins at column x begins
pub next_begins : (side x : ℕ) → 0 < side → x / side * side ≡ x → (x + side) / side * side ≡ x + side
next_begins side x some begins = rw (add-div_right x some) (omega (arith, add-mul (x / side) 1 side, begins))
