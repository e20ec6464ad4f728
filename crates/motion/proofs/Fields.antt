-- The entries around a pixel hang on the grid alone; what is carried gives the definition's steps. Assumes nothing.
use mathlib.Core.Path.{◌≡◌, refl, ap, ◌∙◌}
use Prim.Native.Nat.{ℕ}
use Rattle.rules.specs.declared.Taps.{Taps}
use Rattle.rules.specs.Forms.{Motion}
use lib.Ieee.{Float}
use Rattle.rules.specs.Reading.{after, held_to}
use Rattle.rules.specs.Motion.{taps, row_taps, column_taps, step, steps}
use Rattle.sample.specs.Points.{around}
use Rattle.motion.specs.declared.Carried.{Carried}
use Rattle.motion.specs.declared.Grid.{Grid}
use Rattle.plane.specs.Slices.{Slices}
use Rattle.motion.specs.Moves.{motion_of, laid_out, place_of, columns_of, steps_by, Carries, mixed_steps}

-- the entries around a pixel are the same whatever the fields hold
pub same_columns : (fields : Slices ℕ) (g : Grid) (ratio x : ℕ) → column_taps (laid_out g) ratio x ≡ column_taps (motion_of fields g) ratio x
unfolding column_taps
same_columns fields g ratio x = refl

pub same_rows : (fields : Slices ℕ) (g : Grid) (ratio y : ℕ) → row_taps (laid_out g) ratio y ≡ row_taps (motion_of fields g) ratio y
unfolding row_taps
same_rows fields g ratio y = refl

-- what is carried to a place is carried to the same place by another name
pub to : {m : Motion} {ratio : ℕ} {down across there : Taps} {c : Carried} → across ≡ there → Carries m ratio down across c → Carries m ratio down there c
to e h = record { first = h.first ∙ ap (λ (t : Taps). t.first) e; share = h.share ∙ ap (λ (t : Taps). t.share) e; holds = h.holds }

-- the second column is the one after the first
second : (m : Motion) (ratio x : ℕ) → (column_taps m ratio x).second ≡ after (column_taps m ratio x).first m.grid.0
unfolding column_taps taps
second m ratio x = refl

-- the steps of a pixel by the columns around it
pub carried_by : (m : Motion) (ratio : ℕ) (down : Taps) (x : ℕ) (c : Carried) → Carries m ratio down (column_taps m ratio x) c → mixed_steps c ≡ steps_by m ratio down x
unfolding columns_of steps_by step
carried_by m ratio down x c h = rw (h.holds.left, h.holds.right, h.share, h.first, second m ratio x)

-- between the rows of pixel row y they are the definition's
pub by_rows : (m : Motion) (ratio x y : ℕ) → steps_by m ratio (row_taps m ratio y) x ≡ steps m ratio x y
unfolding steps_by steps
by_rows m ratio x y = refl

pub carried_steps : (m : Motion) (ratio x y : ℕ) (c : Carried)
    → Carries m ratio (row_taps m ratio y) (column_taps m ratio x) c → mixed_steps c ≡ steps m ratio x y
carried_steps m ratio x y c h = carried_by m ratio (row_taps m ratio y) x c h ∙ by_rows m ratio x y

-- a place in the grid and the entries around it
pub around_place : (m : Motion) (ratio x : ℕ) (p : Float) (t : Taps) → p ≡ held_to (place_of m ratio x) m.grid.0 → t ≡ around p m.grid.0
    → t ≡ column_taps m ratio x
unfolding column_taps taps
around_place m ratio x p t e is = rw (is, e)
