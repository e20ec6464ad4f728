-- Signed numbers: through their bits and back, -1 less a number, and the size of a sum. Assumes nothing.
use mathlib.Core.Path.{◌≡◌, refl, sym, ap, ◌∙◌, subst}
use mathlib.Core.Bool.{Bool, true, false, cond}
use Prim.Native.Nat.{ℕ, zero, suc, ◌+◌, ◌-◌, ◌≤◌, ◌<◌, ◌^◌}
use native.Mathlib.Nat.{zero-add}
use native.Mathlib.Omega.{arith}
use borrow.Author.Tests.{ltb-true, ltb-false}
use lib.Dec.{T, ltb, le→leb, lt→ltb}
use lib.IntN.{ℤ, pos, negsuc, neg_ℤ, nat_abs, sub_ℕ, ◌+ℤ◌, ◌-ℤ◌}
use lib.Ieee.{binary32, in_float}
use lib.Signed.{mag, lt_z}
use mir.Syntax.{Width}
use mir.Val.{to_z, of_z, hbits, SFits}
use mir.ValLaws.{to_z-of_z}
use mir.Facts.{to_z_pos}

-- a number that the program has passed through its bits is the number again
pub back : (w : Width) (z : ℤ) → mag z < 2 ^ hbits w → to_z w (of_z w z) ≡ z
back w z h = to_z-of_z w z (record { sfits = h })

-- a number fits a width by its size
pub fits : (w : Width) (z : ℤ) → nat_abs z < 2 ^ hbits w → SFits w z
fits w (pos n) h = record { sfits = h }
fits w (negsuc n) h = record { sfits = omega arith }

-- two tests that failed bound it
pub mag_within : (h : ℕ) (z : ℤ) → lt_z z (negsuc h) ≡ false → lt_z (pos h) z ≡ false → mag z < h + 1
mag_within h (pos n) low high = omega (arith, ltb-false h n high)
mag_within h (negsuc n) low high = omega (arith, ltb-false h n low)

pub again : (w : Width) (z : ℤ) → nat_abs z < 2 ^ hbits w → to_z w (of_z w z) ≡ z
again w z h = to_z-of_z w z (fits w z h)

-- a float holds it
pub in_float_lem : (z : ℤ) → nat_abs z ≤ 2 ^ 24 → T (in_float binary32 z)
unfolding in_float
in_float_lem (pos n) h = le→leb n (2 ^ 24) h
in_float_lem (negsuc n) h = lt→ltb n (2 ^ 24) h

-- ---- -1 less k: the numbers that the upper half of a width's bits stand for

minus : (k : ℕ) → negsuc 0 -ℤ pos k ≡ negsuc k
minus zero = refl
minus (suc k) = ap (λ (n : ℕ). negsuc (suc n)) (zero-add k)

pub minus_is : (w : Width) (k : ℕ) → k < 2 ^ hbits w → negsuc 0 -ℤ to_z w k ≡ negsuc k
minus_is w k h = ap (λ (z : ℤ). negsuc 0 -ℤ z) (to_z_pos w h) ∙ minus k

pub minus_fits : (w : Width) (k : ℕ) → k < 2 ^ hbits w → SFits w (negsuc 0 -ℤ to_z w k)
minus_fits w k h = subst (λ (z : ℤ). SFits w z) (sym (minus_is w k h)) (record { sfits = h })

-- ---- sizes

pub neg_size : (k : ℕ) → nat_abs (neg_ℤ (pos k)) ≡ k
neg_size zero = refl
neg_size (suc k) = refl

minus_size : (a b : ℕ) → nat_abs (sub_ℕ a b) ≤ a + b
minus_size a b = go (ltb a b) (ltb-true a b)
  where
    go : (t : Bool) → (t ≡ true → a < b) → nat_abs (cond t (negsuc (b - suc a)) (pos (a - b))) ≤ a + b
    go true f = let h = f refl in omega arith
    go false f = omega arith

pub sum_size : (a b : ℤ) → nat_abs (a +ℤ b) ≤ nat_abs a + nat_abs b
sum_size (pos a) (pos b) = omega arith
sum_size (pos a) (negsuc b) = minus_size a (suc b)
sum_size (negsuc a) (pos b) = let h = minus_size b (suc a) in omega arith
sum_size (negsuc a) (negsuc b) = omega arith
