-- Twice an `f32` that is not near the largest is exact. So is half of it, rounded away from zero, found by cutting.
-- Assumes nothing.
use mathlib.Core.Path.{◌≡◌, refl, sym, ap, ◌∙◌, subst}
use Prim.Native.Nat.{ℕ, zero, suc, ◌+◌, ◌-◌, ◌*◌, ◌/◌, ◌%◌, ◌^◌, ◌≤◌, ◌<◌}
use native.Mathlib.Nat.{le_trans, le_of_eq, lt_irrefl, not-le_of_lt, lt_of_mul-lt-mul_right, mul-lt-mul_of_pos_right, mul_comm, mul_assoc, mul_left_comm, mul-pos, add-div_right, div-div-eq-div-mul, div-lt_iff_lt-mul, mul-one, mul_right_comm, mul-le-mul_right, lt_of_lt_of_le, zero-mul}
use native.Mathlib.Omega.{arith}
use mathlib.Core.Bool.{true, false, ◌&&◌}
use lib.IntN.{ℤ, pos, negsuc}
use lib.Dec.{T, ltb, leb, eqb, ltb→lt, leb→le, lit≤}
use lib.Pow.{pow-add, pow_pos, pow-lt}
use lib.Ieee.{Float, nan, inf, fin, binary32, up, down, sum, add, lt, fits, to_unsigned}
use lib.Ieee.Fits.{and_l, and_r, down_pos}
use lib.Ieee.Exact.{HasValue, round_exact}
use lib.Ieee.Scale.{round_same}
use Rattle.rules.specs.Float.{negative}
use Rattle.float.specs.Nearest.{size_of}
use Rattle.laws.proofs.Value.{by_value, lt_of_value, cut_of_value}

le_of_not : {a b : ℕ} → (b < a → ⊥) → a ≤ b
le_of_not {a} {b} f = omega arith

-- in units of 2 ^ -149: twice 2 ^ e is 2 ^ j of them
shift : (e : ℤ) → down e ≤ 2 ^ 149 → (j : ℕ) × (2 * up e * 2 ^ 149 ≡ 2 ^ j * down e)
shift (pos k) h = (k + 150, ap (λ (z : ℕ). z * 2 ^ 149) (mul_comm 2 (2 ^ k)) ∙ mul_assoc (2 ^ k) 2 (2 ^ 149) ∙ sym (pow-add 2 k 150) ∙ sym (mul-one (2 ^ (k + 150))))
shift (negsuc k) h = (149 - k, sym (sym (pow-add 2 (149 - k) (suc k)) ∙ ap (λ (i : ℕ). 2 ^ i) (room k (le_of_not (λ m. not-le_of_lt (pow-lt m) h)))))
  where
    room : (k : ℕ) → suc k ≤ 149 → 149 - k + suc k ≡ 150
    room k l = omega arith

far : (A d : ℕ) → A < 2 ^ 64 * d → 2 * A * 2 ^ 149 < 2 ^ 277 * d
far A d h =
    lt_of_lt_of_le (subst (λ (z : ℕ). z < 2 ^ 64 * d * 2 ^ 150) (sym (ap (λ (z : ℕ). z * 2 ^ 149) (mul_comm 2 A) ∙ mul_assoc A 2 (2 ^ 149))) (mul-lt-mul_of_pos_right h (pow_pos 150)))
    (le_trans (le_of_eq (mul_right_comm (2 ^ 64) d (2 ^ 150))) (mul-le-mul_right d (lit≤ tt)))

doubled : (A d : ℕ) → 2 * A * (d * d) ≡ (A * d + A * d) * d
doubled A d = sym (ap (λ (z : ℕ). z * d) (two (A * d)) ∙ simp mul_assoc)
  where
    two : (x : ℕ) → x + x ≡ 2 * x
    two x = omega arith

-- m * 2 ^ e fits, and is below 2 ^ 64: twice it has its own value, with no rounding
twice_value : (m : ℕ) (e : ℤ) → m < 2 ^ 24 → down e ≤ 2 ^ 149 → m * up e < 2 ^ 64 * down e → HasValue (add binary32 (fin false m e) (fin false m e)) false (2 * (m * up e)) (down e)
unfolding add sum
twice_value m e M D L =
    let d = down e in
    let A = m * up e in
    let s = shift e D in
    let j = s.0 in
    let units : 2 * A * 2 ^ 149 ≡ m * 2 ^ j * d = simp (mul_assoc, mul_comm, mul_left_comm) (simp (mul_assoc, mul_comm, mul_left_comm) at (ap (λ (z : ℕ). m * z) s.1)) in
    let top : m * 2 ^ j < 2 ^ (149 + 128) = lt_of_mul-lt-mul_right d (subst (λ (z : ℕ). z < 2 ^ 277 * d) units (far A d L)) in
    subst (λ (x : Float). HasValue x false (2 * A) d)
    (round_same binary32 false (2 * A) d (A * d + A * d) (d * d) (down_pos e) (mul-pos (down_pos e) (down_pos e)) (doubled A d))
    (round_exact binary32 false (2 * A) d m j (down_pos e) M top units)

-- (a / d + 1) / 2, cut twice, is a / 2d + 1 / 2, cut once
away : (A d : ℕ) → 0 < d → (2 * A / d + 1) / 2 ≡ (2 * A + d) / (2 * d)
away A d D = ap (λ (z : ℕ). z / 2) (sym (add-div_right (2 * A) D)) ∙ div-div-eq-div-mul (2 * A + d) d 2 ∙ ap (λ (z : ℕ). (2 * A + d) / z) (mul_comm d 2)

-- what the code of `nearest` does with an x above 0 and below 2 ^ 16
pub record Halved (x y : Float) : Type 0 where
  pub sign : negative y ≡ false
  pub under : T (lt y (fin false 1 (pos 23)))
  pub small : to_unsigned 64 y < 2 ^ 17
  pub is : (to_unsigned 64 y + 1) / 2 ≡ size_of x

of_value : (m : ℕ) (e : ℤ) (y : Float) → m * up e < 2 ^ 16 * down e → HasValue y false (2 * (m * up e)) (down e) → Halved (fin false m e) y
unfolding size_of negative
of_value m e y L v =
    let A = m * up e in
    let d = down e in
    let q : 2 * A / d < 2 ^ 17 = (div-lt_iff_lt-mul (down_pos e)).1 (more A d L) in
    let c : to_unsigned 64 y ≡ 2 * A / d = cut_of_value 64 y (2 * A) d (down_pos e) v (lt_of_lt_of_le q (lit≤ tt)) in
    record {
      sign = by_value (λ y. negative y ≡ false) y false (2 * A) d v (λ _ _ _. refl);
      under = lt_of_value y (2 * A) d 1 (pos 23) (down_pos e) v (most A d L);
      small = subst (λ (z : ℕ). z < 2 ^ 17) (sym c) q;
      is = ap (λ (z : ℕ). (z + 1) / 2) c ∙ away A d (down_pos e);
    }
  where
    more : (A d : ℕ) → A < 2 ^ 16 * d → 2 * A < 2 ^ 17 * d
    more A d h = omega arith

    most : (A d : ℕ) → A < 2 ^ 16 * d → 2 * A * 1 < 1 * 2 ^ 23 * d
    most A d h = omega arith

pub halved : (x : Float) → T (fits binary32 x) → T (lt (fin false 0 (pos 0)) x) → T (lt x (fin false 1 (pos 16))) → Halved x (add binary32 x x)
unfolding lt fits
halved nan F a b = absurd a
halved (inf true) F a b = absurd a
halved (inf false) F a b = absurd b
halved (fin true m e) F a b = absurd a
halved (fin false zero e) F a b =
    absurd (lt_irrefl 0 (subst (λ (z : ℕ). 0 < z) (mul-one (0 * up e) ∙ zero-mul (up e))
    (subst (λ (z : ℕ). z < 0 * up e * 1) (zero-mul (down e)) (ltb→lt (0 * 1 * down e) (0 * up e * 1) a))))
halved (fin false (suc m) e) F a b =
    let n = suc m in
    let one = eqb (n % 2) 1 in
    let two = ltb n (2 ^ 24) in
    let three = leb (down e) (2 ^ 149) in
    let four = ltb (n * up e) (2 ^ 128 * down e) in
    let F3 : T (one && two && three) = and_l (one && two && three) four F in
    let L : n * up e < 2 ^ 16 * down e = subst (λ (z : ℕ). z < 2 ^ 16 * down e) (mul-one (n * up e)) (ltb→lt (n * up e * 1) (1 * 2 ^ 16 * down e) b) in
    of_value n e (add binary32 (fin false n e) (fin false n e)) L
    (twice_value n e (ltb→lt n (2 ^ 24) (and_r one two (and_l (one && two) three F3))) (leb→le (down e) (2 ^ 149) (and_r (one && two) three F3)) (wide (n * up e) (down e) L))
  where
    wide : (A d : ℕ) → A < 2 ^ 16 * d → A < 2 ^ 64 * d
    wide A d h = omega arith
