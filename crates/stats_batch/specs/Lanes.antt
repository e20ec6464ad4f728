-- What the entries of an array are, one for each of n pixels.
use Rattle.std.specs.Prelude.{◌≡◌, List, ℕ, ◌+◌, ◌<◌, get_or, Float}
use Rattle.std.specs.Float.{nan}
use Rattle.rules.specs.declared.Taps.{Taps}
use Rattle.rules.specs.Forms.{Motion}
use Rattle.rules.specs.Float.{cut}
use Rattle.motion.specs.Moves.{steps_by, Holds}
use Rattle.stats_batch.specs.declared.Shifts.{Shifts}

-- the first n entries are f 0, f 1, up to f (n - 1)
abbrev pub Lanes : {A : Type 0} → (n : ℕ) → (none : A) → (f : ℕ → A) → List A → Type 0
Lanes n none f l = (k : ℕ) → k < n → get_or l k none ≡ f k

-- the first n points lie on a side of this size
abbrev pub Inside : (n size : ℕ) → List Float → Type 0
Inside n size p = (k : ℕ) → k < n → cut (get_or p k nan) < size

-- the whole parts of the first n points
abbrev pub Wholes : (n : ℕ) → List Float → List ℕ → Type 0
Wholes n p wholes = Lanes n 0 (λ k. cut (get_or p k nan)) wholes

-- the steps of n pixel columns from x on, and columns to carry on
pub record Shifted (m : Motion) (ratio : ℕ) (down : Taps) (x n : ℕ) (r : Shifts) : Type 0 where
  pub fx : Lanes n nan (λ k. (steps_by m ratio down (x + k)).fx) r.fx
  pub fy : Lanes n nan (λ k. (steps_by m ratio down (x + k)).fy) r.fy
  pub bx : Lanes n nan (λ k. (steps_by m ratio down (x + k)).bx) r.bx
  pub by : Lanes n nan (λ k. (steps_by m ratio down (x + k)).by) r.by
  pub holds : Holds m ratio down r.held
