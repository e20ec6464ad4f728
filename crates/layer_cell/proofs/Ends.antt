-- That a pixel's cell is among the chroma pixels, and the test of a gap. Assumes nothing.
use mathlib.Core.Path.{◌≡◌}
use mathlib.Core.Bool.{Bool, true, false, cond}
use Prim.Native.Nat.{ℕ, ◌*◌, ◌/◌, ◌^◌, ◌≤◌, ◌<◌}
use native.Mathlib.Nat.{mul-le-mul_left, div-one, div-le_self, div-lt_iff_lt-mul, lt_of_le_of_lt}
use native.Mathlib.Omega.{arith}
use lib.IntN.{ℤ, pos}
use lib.Signed.{le_z, mag, nat_abs-le}
use lib.Ieee.{le}
use Rattle.rules.specs.Literals.{0·0}
use Rattle.laws.proofs.Whole.{gap, gap_zero, same_test}

-- the cells of n pixels are among its chroma pixels
pub cell_in : (b : Bool) (n r k : ℕ) → (1 ≤ r) × (r ≤ 4) → n / r * r ≡ n → k < n / cond b 1 r → k / (8 / cond b 1 r) < n / r
cell_in true n r k small whole below =
    let h : k < n = rw (div-one n) at below in
    let m : n / r * r ≤ n / r * 8 = mul-le-mul_left (n / r) (omega arith) in
    (div-lt_iff_lt-mul {k = 8} {x = k} {y = n / r} (omega arith)).1 (omega arith)
cell_in false n r k small whole below = lt_of_le_of_lt (div-le_self k (8 / r)) below

-- "at most 0 exactly when the stored number is at most 1"
pub gap_test : (d : ℤ) → mag d < 2 ^ 15 → le_z d (pos 1) ≡ le (gap d) 0·0
gap_test d small =
    let h = gap_zero d (nat_abs-le d small) in
    same_test (le_z d (pos 1)) (le (gap d) 0·0) h.1 h.0
