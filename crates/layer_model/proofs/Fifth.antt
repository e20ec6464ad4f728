-- A gain against 0.2, by the whole total of its stored gains: a quotient by a power of two is exact. Assumes nothing.
use mathlib.Core.Path.{◌≡◌, refl, sym, ap, ◌∙◌}
use mathlib.Core.Bool.{Bool, false}
use Prim.Native.Nat.{ℕ, zero, suc, ◌*◌, ◌^◌, ◌≤◌, ◌<◌}
use native.Mathlib.Nat.{le_trans, mul_assoc, mul-le-mul_right, lt_of_le_of_lt}
use native.Mathlib.Omega.{arith}
use lib.Dec.{leb, le→leb, leb→le, lit<, lit≤}
use lib.IntN.{ℤ, pos, nat_abs}
use lib.Pow.{pow_pos}
use lib.Ieee.{Float, nan, inf, fin, binary32, up, down, round, mul, le, of_bits, of_int}
use lib.Ieee.Exact.{HasValue, round_exact}
use Rattle.rules.specs.Literals.{0·2, 4096·0}
use Rattle.rules.specs.Float.{◌⊗◌, ◌⊘◌, ◌≼◌, abs, float, signed}
use Rattle.laws.proofs.Points.{div_at}
use Rattle.laws.proofs.Whole.{minus?, int_value, le_by_values, values_by_le, same_test}
use Rattle.layer_numbers.specs.Stored.{gain_by}
use Rattle.layer_model.specs.Least.{least_of}

-- ---- a whole total as a float

pub scale_four : float 4 ⊗ 4096·0 ≡ of_bits binary32 0x46800000
unfolding of_int of_bits mul
scale_four = refl

-- ---- a quotient by 2 ^ k

exact : (s : Bool) (a k j : ℕ) → 2 ^ 149 ≡ 2 ^ j * 2 ^ k → 524288 * 2 ^ j < 2 ^ 277 → a ≤ 524288 → HasValue (round binary32 s a (2 ^ k)) s a (2 ^ k)
exact s a k j e small h =
    round_exact binary32 s a (2 ^ k) a j (pow_pos k) (lt_of_le_of_lt h (lit< tt)) (lt_of_le_of_lt (mul-le-mul_right (2 ^ j) h) small)
    (ap (λ (n : ℕ). a * n) e ∙ sym (mul_assoc a (2 ^ j) (2 ^ k)))

abs_value : (x : Float) (s : Bool) (a c : ℕ) → HasValue x s a c → HasValue (abs x) false a c
unfolding abs
abs_value nan s a c v = v
abs_value (inf t) s a c v = v
abs_value (fin t m e) s a c v = (refl, v.1)

fifth_value : HasValue 0·2 false 13421773 (2 ^ 26)
unfolding of_bits
fifth_value = (refl, refl)

-- ---- the test

module _ (z : ℤ) (small : nat_abs z ≤ 524288) where
  test_at : (n k j least : ℕ) → float (n * n) ⊗ 4096·0 ≡ fin false 1 (pos k) → 2 ^ 149 ≡ 2 ^ j * 2 ^ k → 524288 * 2 ^ j < 2 ^ 277
      → ((a : ℕ) → 13421773 * 2 ^ k ≤ a * 2 ^ 26 → least ≤ a) → ((a : ℕ) → least ≤ a → 13421773 * 2 ^ k ≤ a * 2 ^ 26)
      → (0·2 ≼ abs (gain_by n z)) ≡ leb least (nat_abs z)
  test_at n k j least scale whole low up down =
      let x = signed z ⊘ fin false 1 (pos k) in
      let v : HasValue x (minus? z) (nat_abs z) (2 ^ k) =
      rw (div_at k (signed z) (minus? z) (nat_abs z) (int_value binary32 z (le_trans small (lit≤ tt)))) (exact (minus? z) (nat_abs z) k j whole low small) in
      let w = abs_value x (minus? z) (nat_abs z) (2 ^ k) v in
      rw scale
      (same_test (le 0·2 (abs x)) (leb least (nat_abs z))
      (λ t. le→leb least (nat_abs z) (up (nat_abs z) (values_by_le 0·2 (abs x) false 13421773 (2 ^ 26) false (nat_abs z) (2 ^ k) fifth_value w (lit< tt) (pow_pos k) t)))
      (λ t. le_by_values 0·2 (abs x) false 13421773 (2 ^ 26) false (nat_abs z) (2 ^ k) (lit< tt) (pow_pos k) fifth_value w (down (nat_abs z) (leb→le least (nat_abs z) t))))

  one : (0·2 ≼ abs (gain_by 1 z)) ≡ leb 820 (nat_abs z)
  unfolding of_int of_bits mul
  one = test_at 1 12 137 820 refl refl (lit< tt) (λ a h. omega arith) (λ a h. omega arith)

  two : (0·2 ≼ abs (gain_by 2 z)) ≡ leb 3277 (nat_abs z)
  unfolding of_int of_bits mul
  two = test_at 2 14 135 3277 refl refl (lit< tt) (λ a h. omega arith) (λ a h. omega arith)

  four : (0·2 ≼ abs (gain_by 4 z)) ≡ leb 13108 (nat_abs z)
  unfolding of_int of_bits mul
  four = test_at 4 16 133 13108 refl refl (lit< tt) (λ a h. omega arith) (λ a h. omega arith)

  -- a gain of 0.2 or more, by size
  pub fifth_test : (n : ℕ) → 1 ≤ n → n ≤ 4 → (n ≡ 3 → ⊥) → (0·2 ≼ abs (gain_by n z)) ≡ leb (least_of n) (nat_abs z)
  fifth_test zero low high power = absurd (omega arith)
  fifth_test (suc zero) low high power = one
  fifth_test (suc (suc zero)) low high power = two
  fifth_test (suc (suc (suc zero))) low high power = absurd (power refl)
  fifth_test (suc (suc (suc (suc zero)))) low high power = four
  fifth_test (suc (suc (suc (suc (suc n))))) low high power = absurd (omega arith)
