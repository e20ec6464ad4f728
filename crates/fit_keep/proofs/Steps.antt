-- One step of the keeping pass, by column and row. Assumes nothing.
use mathlib.Core.Path.{◌≡◌}
use mathlib.Core.List.{List}
use Prim.Native.Nat.{ℕ, ◌+◌, ◌*◌, ◌/◌, ◌<◌}
use native.Mathlib.Nat.{mul_comm}
use native.Mathlib.Omega.{arith}
use borrow.Author.Tests.{eq-eqb, ne_eqb}
use lib.Arith.{digits_div, digits_lt, digits_mod}
use lib.ListN.{get_or}
use Rattle.rules.specs.Forms.{cells}
use Rattle.rules.specs.Model.{Fitted}
use Rattle.rules.specs.Keeping.{cell_of}
use Rattle.fit_near.specs.Verdict.{verdict_of}
use Rattle.fit_keep.specs.Pass.{marked, step}

-- nothing was found there
pub step_none : (rough : List Fitted) (size : ℕ × ℕ) (at : ℕ) (s : List ℕ × List ℕ) → get_or s.0 at 0 ≡ 0 → s ≡ step rough size at s
unfolding step
step_none rough size at s e = rw (eq-eqb (get_or s.0 at 0) 0 e)

-- something was
pub step_some : (rough : List Fitted) (size : ℕ × ℕ) (at : ℕ) (s : List ℕ × List ℕ) → (get_or s.0 at 0 ≡ 0 → ⊥)
    → marked (verdict_of rough size at) at (cell_of size.0 at) s ≡ step rough size at s
unfolding step
step_some rough size at s h = rw (ne_eqb (get_or s.0 at 0) 0 h)

-- ---- the cell

pub cell_is : (width x y : ℕ) → x < width → cell_of width (y * width + x) ≡ y / 8 * cells width + x / 8
cell_is width x y left = rw (digits_div y left, digits_mod y left)

few : (x width : ℕ) → x < width → x / 8 < cells width
few x width h = omega arith

pub cell_in : (width height x y : ℕ) → x < width → y < height → y / 8 * cells width + x / 8 < cells width * cells height
cell_in width height x y left above =
    omega (arith, digits_lt (few y height above) (few x width left), mul_comm (cells height) (cells width))
