-- A whole coordinate, moved by a whole radius and held to the plane, is a whole number. Assumes nothing.
use mathlib.Core.Path.{◌≡◌, refl, ap, ◌∙◌}
use mathlib.Core.Bool.{Bool, true, false, not, cond}
use Prim.Native.Nat.{ℕ, zero, suc, ◌+◌, ◌-◌, ◌^◌, ◌≤◌, ◌<◌, min}
use native.Mathlib.Nat.{zero-mul, one-mul, add-zero}
use native.Mathlib.Omega.{arith}
use borrow.Author.Tests.{le-ltb}
use lib.Dec.{T, ltb, le→leb, leb→le, ltb→lt, nltb→le, lit≤}
use lib.IntN.{ℤ, pos, negsuc, nat_abs, sub_ℕ}
use lib.Signed.{le_z}
use lib.Ieee.{binary32, lt, is_nan}
use Rattle.rules.specs.Literals.{0·0}
use Rattle.rules.specs.Float.{◌⊕◌, ◌⊗◌, float, signed, clamp}
use Rattle.rules.specs.Reading.{held_to}
use Rattle.rules.specs.Scene.{sign}
use Rattle.laws.proofs.Order.{not_lt_of_le, le_of_not_lt, le_left}
use Rattle.laws.proofs.Whole.{zero_is, int_le, le_int, add_int, mul_int}

-- ---- the order of whole numbers as floats

no : (b : Bool) → (T b → ⊥) → b ≡ false
no true f = absurd (f tt)
no false f = refl

yes : (b : Bool) → (T (not b) → ⊥) → b ≡ true
yes true f = refl
yes false f = absurd (f tt)

-- not below, where at least
at_least : (a b : ℤ) → nat_abs a ≤ 2 ^ 24 → nat_abs b ≤ 2 ^ 24 → T (le_z b a) → lt (signed a) (signed b) ≡ false
at_least a b A B h = no (lt (signed a) (signed b)) (not_lt_of_le (signed b) (signed a) (int_le binary32 b a B A h))

le_z_refl : (z : ℤ) → T (le_z z z)
le_z_refl (pos n) = le→leb n n (omega arith)
le_z_refl (negsuc n) = le→leb n n (omega arith)

no_nan : (z : ℤ) → nat_abs z ≤ 2 ^ 24 → T (not (is_nan (signed z)))
no_nan z h = le_left (signed z) (signed z) (int_le binary32 z z h h (le_z_refl z))

-- below, where not at least
below : (a b : ℤ) → nat_abs a ≤ 2 ^ 24 → nat_abs b ≤ 2 ^ 24 → (T (le_z b a) → ⊥) → lt (signed a) (signed b) ≡ true
below a b A B h = yes (lt (signed a) (signed b)) (λ n. h (le_int binary32 b a B A (le_of_not_lt (signed b) (signed a) (no_nan b B) (no_nan a A) n)))

lt-float : (m n : ℕ) → m ≤ 2 ^ 24 → n ≤ 2 ^ 24 → lt (float m) (float n) ≡ ltb m n
lt-float m n M N = go (ltb m n) (ltb→lt m n) (nltb→le m n)
  where
    never : m < n → n ≤ m → ⊥
    never h k = omega arith

    go : (t : Bool) → (T t → m < n) → (T (not t) → n ≤ m) → lt (float m) (float n) ≡ t
    go true h k = below (pos m) (pos n) M N (λ l. never (h tt) (leb→le n m l))
    go false h k = at_least (pos m) (pos n) M N (le→leb n m (k tt))

-- ---- held to the plane

clamp_pos : (n m : ℕ) → n ≤ 2 ^ 24 → m ≤ 2 ^ 24 → clamp (float n) 0·0 (float m) ≡ float (min n m)
unfolding clamp
clamp_pos n m N M = rw (← zero_is, lt-float n 0 N (lit≤ tt), le-ltb n 0 (omega arith), lt-float m n M N) (go (ltb m n) (ltb→lt m n) (nltb→le m n))
  where
    go : (t : Bool) → (T t → m < n) → (T (not t) → n ≤ m) → cond t (float m) (float n) ≡ float (min n m)
    go true h k = let l = h tt in let e : m ≡ min n m = omega arith in ap float e
    go false h k = let l = k tt in let e : n ≡ min n m = omega arith in ap float e

clamp_neg : (n m : ℕ) → suc n ≤ 2 ^ 24 → clamp (signed (negsuc n)) 0·0 (float m) ≡ float 0
unfolding clamp
clamp_neg n m N = rw (← zero_is, below (negsuc n) (pos 0) N (lit≤ tt) (λ t. t))

-- ---- moved

left_is : (x r : ℕ) → 1 ≤ r → x ≤ 4096 → r ≤ 4096 → float x ⊕ sign 0 ⊗ float r ≡ signed (sub_ℕ x r)
left_is x zero some X R = absurd (omega arith)
left_is x (suc r) some X R = rw (mul_int binary32 (negsuc 0) (suc r) some (lit≤ tt) (omega arith), one-mul (suc r)) (add_int binary32 (pos x) (negsuc r) (omega arith) (omega arith))

middle_is : (x r : ℕ) → 1 ≤ r → x ≤ 4096 → r ≤ 4096 → float x ⊕ sign 1 ⊗ float r ≡ float x
middle_is x r some X R = rw (mul_int binary32 (pos 0) r some (lit≤ tt) (omega arith), zero-mul r) (add_int binary32 (pos x) (pos 0) (omega arith) (lit≤ tt) ∙ ap float (add-zero x))

right_is : (x r : ℕ) → 1 ≤ r → x ≤ 4096 → r ≤ 4096 → float x ⊕ sign 2 ⊗ float r ≡ float (x + r)
right_is x r some X R = rw (mul_int binary32 (pos 1) r some (lit≤ tt) (omega arith), one-mul r) (add_int binary32 (pos x) (pos r) (omega arith) (omega arith))

module _ (x r size : ℕ) (some : 1 ≤ r) (few : r ≤ 4096) (inside : x < size) (small : size ≤ 4096) where
  pub held_left : held_to (float x ⊕ sign 0 ⊗ float r) size ≡ float (x - r)
  held_left = rw (left_is x r some (omega arith) few) (go (ltb x r) (ltb→lt x r))
    where
      go : (t : Bool) → (T t → x < r) → held_to (signed (cond t (negsuc (r - suc x)) (pos (x - r)))) size ≡ float (x - r)
      go true h =
          let l = h tt in
          let z : 0 ≡ x - r = omega arith in
          clamp_neg (r - suc x) (size - 1) (omega arith) ∙ ap float z
      go false h =
          let e : min (x - r) (size - 1) ≡ x - r = omega arith in
          clamp_pos (x - r) (size - 1) (omega arith) (omega arith) ∙ ap float e

  pub held_middle : held_to (float x ⊕ sign 1 ⊗ float r) size ≡ float x
  held_middle =
      let e : min x (size - 1) ≡ x = omega arith in
      rw (middle_is x r some (omega arith) few) (clamp_pos x (size - 1) (omega arith) (omega arith) ∙ ap float e)

  pub held_right : held_to (float x ⊕ sign 2 ⊗ float r) size ≡ float (min (x + r) (size - 1))
  held_right = rw (right_is x r some (omega arith) few) (clamp_pos (x + r) (size - 1) (omega arith) (omega arith))
