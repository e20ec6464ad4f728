-- The whole part of a float without a sign and below 2 ^ 23, by adding 2 ^ 23 and taking it off: that leaves a whole
-- number next to x, which is the whole part or one more. Assumes nothing.
use mathlib.Core.Path.{◌≡◌, refl, sym, ap, ◌∙◌, subst}
use Prim.Native.Nat.{ℕ, suc, ◌+◌, ◌-◌, ◌*◌, ◌/◌, ◌%◌, ◌^◌, ◌≤◌, ◌<◌, compare}
use native.Mathlib.Nat.{le_trans, le_of_eq, lt_of_lt_of_le, lt_of_le_of_lt, not-le_of_lt, lt_of_not-le, mul_comm, mul_assoc, mul-one, mul-pos, mul_right_comm, mul-le-mul_right, mul-lt-mul_of_pos_right, div-lt_iff_lt-mul, le-div_iff_mul-le, eq_of_mul-eq-mul_right, add-mul-div_right, zero-lt-suc, div-mul-le_self}
use native.Mathlib.Omega.{arith}
use mathlib.Core.Bool.{Bool, true, false, not, cond, true≢false}
use lib.IntN.{ℤ, pos, negsuc}
use lib.Dec.{T, ltb, ltb→lt, le→leb, lit<, lit≤}
use lib.Pow.{pow_pos, pow_mono}
use mir.Val.{bool_byte}
use lib.Ieee.{Float, nan, inf, fin, binary32, up, down, size, units, round, sum, add, sub, neg, lt, is_nan, of_int, to_unsigned, in_unsigned, in_float}
use lib.Ieee.Digits.{size-lt, size-le}
use lib.Ieee.Fits.{core, round_is, nearest-le, down_pos}
use lib.Ieee.Exact.{HasValue, units_val}
use lib.Ieee.Nearest.{closest, closest_same, nearest-ge}
use lib.Ieee.Back.{unsigned_back}
use lib.Arith.{le→nltb}
use Rattle.rules.specs.Float.{negative}
use Rattle.laws.proofs.Value.{cut_of_value, T_of, not_of}
use Rattle.laws.proofs.Order.{not_lt_of_le, le_of_not_lt}
use Rattle.laws.proofs.Whole.{le_by_values, values_by_le, int_value, add_at, sum_int}
use Rattle.float.proofs.Index.{int_no_nan}

-- ---- between 2 ^ 23 and 2 ^ 24 an `f32` is a whole number, the nearest one
digits : (w : ℕ) → 2 ^ 172 ≤ w → w < 2 ^ 173 → size w - 24 ≡ 149
digits w l u = exact (size w) (size-le w 173 u) (lt_of_not-le (λ h. not-le_of_lt (lt_of_lt_of_le (size-lt w) (pow_mono h)) l))
  where
    exact : (z : ℕ) → z ≤ 173 → 172 < z → z - 24 ≡ 149
    exact z h k = omega arith

cancel : (x : Float) (q : ℕ) → HasValue x false (q * 2 ^ 149) (2 ^ 149) → HasValue x false q 1
cancel nan q v = v
cancel (inf t) q v = v
cancel (fin t m e) q v = (
  v.0,
  eq_of_mul-eq-mul_right (2 ^ 149) (pow_pos 149) (m * up e * 1) (q * down e)
      (ap (λ (z : ℕ). z * 2 ^ 149) (mul-one (m * up e)) ∙ v.1 ∙ mul_right_comm q (2 ^ 149) (down e)),
)

near : (num den : ℕ) → 0 < den → 2 ^ 23 * den ≤ num → num < 2 ^ 24 * den → HasValue (round binary32 false num den) false (closest num den) 1
near num den D l u =
    let n = num * 2 ^ 149 in
    let lo : 2 ^ 172 ≤ n / den = (le-div_iff_mul-le D).1 (le_trans (le_of_eq (sym (mul_right_comm (2 ^ 23) den (2 ^ 149)))) (mul-le-mul_right (2 ^ 149) l)) in
    let hi : n / den < 2 ^ 173 = (div-lt_iff_lt-mul D).1 (lt_of_lt_of_le (mul-lt-mul_of_pos_right u (pow_pos 149)) (le_of_eq (mul_right_comm (2 ^ 24) den (2 ^ 149)))) in
    let q = closest n (den * 2 ^ 149) in
    let is : round binary32 false num den ≡ units binary32 false q 149 = round_is binary32 false num den ∙ ap (λ (k : ℕ). core binary32 false n den k) (digits (n / den) lo hi) in
    let same : q ≡ closest num den = closest_same n (den * 2 ^ 149) num den (mul-pos D (pow_pos 149)) D (mul_assoc num (2 ^ 149) den ∙ ap (λ (z : ℕ). num * z) (mul_comm (2 ^ 149) den)) in
    let most : closest num den ≤ 2 ^ 24 = le_trans (nearest-le (num / den) (compare (num % den * 2) den)) ((div-lt_iff_lt-mul D).1 u) in
    let under : closest num den * 2 ^ 149 < 2 ^ 277 = lt_of_le_of_lt (mul-le-mul_right (2 ^ 149) most) (lit< tt) in
    cancel (round binary32 false num den) (closest num den)
    (subst (λ (x : Float). HasValue x false (closest num den * 2 ^ 149) (2 ^ 149)) (sym (is ∙ ap (λ (z : ℕ). units binary32 false z 149) same))
    (units_val binary32 false (closest num den) 149 under))

-- ---- x + 2 ^ 23 - 2 ^ 23
abbrev pub big : Float
big = fin false 1 (pos 23)

abbrev pub there_and_back : Float → Float
there_and_back x = sub binary32 (add binary32 x big) big

pub record Floored (x w : Float) : Type 0 where
  pub r : ℕ
  pub is : w ≡ of_int binary32 (pos r)
  pub small : r ≤ 2 ^ 24
  pub more : lt x w ≡ true → r ≡ suc (to_unsigned 64 x)
  pub same : lt x w ≡ false → r ≡ to_unsigned 64 x

-- the sum, by the fraction A / D of x
summed : (m : ℕ) (e : ℤ) → m * up e < 2 ^ 23 * down e → HasValue (add binary32 (fin false m e) big) false (closest (m * up e * 1 + 1 * 2 ^ 23 * down e) (down e * 1)) 1
unfolding add sum
summed m e U = near (m * up e * 1 + 1 * 2 ^ 23 * down e) (down e * 1) (mul-pos (down_pos e) (zero-lt-suc 0)) (least (m * up e) (down e)) (most (m * up e) (down e) U)
  where
    least : (A D : ℕ) → 2 ^ 23 * (D * 1) ≤ A * 1 + 1 * 2 ^ 23 * D
    least A D = omega arith

    most : (A D : ℕ) → A < 2 ^ 23 * D → A * 1 + 1 * 2 ^ 23 * D < 2 ^ 24 * (D * 1)
    most A D h = omega arith

-- its whole part is that of x, and 2 ^ 23
whole_part : (A D : ℕ) → 0 < D → (A * 1 + 1 * 2 ^ 23 * D) / (D * 1) ≡ A / D + 2 ^ 23
whole_part A D h = ap (λ (z : ℕ). (z + 1 * 2 ^ 23 * D) / (D * 1)) (mul-one A) ∙ ap (λ (z : ℕ). (A + 2 ^ 23 * D) / z) (mul-one D) ∙ add-mul-div_right A (2 ^ 23) h

taken_off : (q : ℕ) (y : Float) → 2 ^ 23 ≤ q → HasValue y false q 1 → sub binary32 y big ≡ of_int binary32 (pos (q - 2 ^ 23))
unfolding sub neg
taken_off q y h v =
    add_at binary32 y (fin true 1 (pos 23)) false q true (2 ^ 23) v (refl, refl)
    ∙ sum_int binary32 (pos q) (negsuc 8388607)
    ∙ ap (λ (z : ℤ). of_int binary32 z) (pick (ltb q (2 ^ 23)) (le→nltb q (2 ^ 23) h))
  where
    pick : (b : Bool) → T (not b) → cond b (negsuc (2 ^ 23 - suc q)) (pos (q - 2 ^ 23)) ≡ pos (q - 2 ^ 23)
    pick true t = absurd t
    pick false t = refl

no_nan : (m : ℕ) (e : ℤ) → T (not (is_nan (fin false m e)))
unfolding is_nan
no_nan m e = tt

floored_at : (m : ℕ) (e : ℤ) → m * up e < 2 ^ 23 * down e → Floored (fin false m e) (there_and_back (fin false m e))
floored_at m e U =
    let A = m * up e in
    let D = down e in
    let x = fin false m e in
    let fl = A / D in
    let num = A * 1 + 1 * 2 ^ 23 * D in
    let den = D * 1 in
    let q = closest num den in
    let e1 : num / den ≡ fl + 2 ^ 23 = whole_part A D (down_pos e) in
    let lo : fl + 2 ^ 23 ≤ q = subst (λ (z : ℕ). z ≤ q) e1 (nearest-ge (num / den) (compare (num % den * 2) den)) in
    let hi : q ≤ suc (fl + 2 ^ 23) = subst (λ (z : ℕ). q ≤ suc z) e1 (nearest-le (num / den) (compare (num % den * 2) den)) in
    let F : fl < 2 ^ 23 = (div-lt_iff_lt-mul (down_pos e)).1 U in
    let r = q - 2 ^ 23 in
    let R : r ≤ 2 ^ 24 = bound fl q F hi in
    let is : there_and_back x ≡ of_int binary32 (pos r) = taken_off q (add binary32 x big) (enough fl q lo) (summed m e U) in
    let c : to_unsigned 64 x ≡ fl = cut_of_value 64 x A D (down_pos e) (refl, refl) (lt_of_lt_of_le F (lit≤ tt)) in
    let v = int_value binary32 (pos r) R in
    record {
      r = r;
      is = is;
      small = R;
      more = λ t. above fl q lo hi (λ h. not_lt_of_le (of_int binary32 (pos r)) x
          (le_by_values (of_int binary32 (pos r)) x false r 1 false A D (zero-lt-suc 0) (down_pos e) v (refl, refl)
          (le_trans (mul-le-mul_right D h) (le_trans (div-mul-le_self A D) (le_of_eq (sym (mul-one A))))))
          (subst (λ (y : Float). T (lt x y)) is (T_of (lt x (there_and_back x)) t))) ∙ ap suc (sym c);
      same = λ t. below fl q lo hi ((le-div_iff_mul-le (down_pos e)).1 (le_trans
          (values_by_le (of_int binary32 (pos r)) x false r 1 false A D v (refl, refl) (zero-lt-suc 0) (down_pos e)
          (le_of_not_lt (of_int binary32 (pos r)) x (int_no_nan r R) (no_nan m e) (subst (λ (y : Float). T (not (lt x y))) is (not_of (lt x (there_and_back x)) t)))) (le_of_eq (mul-one A)))) ∙ sym c;
    }
  where
    bound : (fl q : ℕ) → fl < 2 ^ 23 → q ≤ suc (fl + 2 ^ 23) → q - 2 ^ 23 ≤ 2 ^ 24
    bound fl q h k = omega arith

    enough : (fl q : ℕ) → fl + 2 ^ 23 ≤ q → 2 ^ 23 ≤ q
    enough fl q h = omega arith

    above : (fl q : ℕ) → fl + 2 ^ 23 ≤ q → q ≤ suc (fl + 2 ^ 23) → (q - 2 ^ 23 ≤ fl → ⊥) → q - 2 ^ 23 ≡ suc fl
    above fl q h k l = omega arith

    below : (fl q : ℕ) → fl + 2 ^ 23 ≤ q → q ≤ suc (fl + 2 ^ 23) → q - 2 ^ 23 ≤ fl → q - 2 ^ 23 ≡ fl
    below fl q h k l = omega arith

pub floored : (x : Float) → negative x ≡ false → T (lt x big) → Floored x (there_and_back x)
unfolding lt negative
floored nan a b = absurd b
floored (inf true) a b = absurd (true≢false a)
floored (inf false) a b = absurd b
floored (fin true m e) a b = absurd (true≢false a)
floored (fin false m e) a b = floored_at m e (small (m * up e) (down e) (ltb→lt (m * up e * 1) (1 * 2 ^ 23 * down e) b))
  where
    small : (A D : ℕ) → A * 1 < 1 * 2 ^ 23 * D → A < 2 ^ 23 * D
    small A D h = omega arith

-- as a machine's number
pub number : (x w : Float) (F : Floored x w) → T (in_unsigned binary32 32 w) × (to_unsigned 32 w ≡ F.r)
unfolding in_float
number x w F =
    let b = unsigned_back binary32 32 F.r (le→leb F.r (2 ^ 24) F.small) (lt_of_le_of_lt F.small (lit< tt)) in
    (subst (λ (y : Float). T (in_unsigned binary32 32 y)) (sym F.is) b.0, ap (λ (y : Float). to_unsigned 32 y) F.is ∙ b.1)

-- the number that is left, less one where it is too large
pub taken : (x w : Float) (F : Floored x w) → (bool_byte (lt x w) ≤ to_unsigned 32 w) × (to_unsigned 32 w - bool_byte (lt x w) ≡ to_unsigned 64 x)
taken x w F = go (lt x w) F.more F.same
  where
    go : (b : Bool) → (b ≡ true → F.r ≡ suc (to_unsigned 64 x)) → (b ≡ false → F.r ≡ to_unsigned 64 x)
        → (bool_byte b ≤ to_unsigned 32 w) × (to_unsigned 32 w - bool_byte b ≡ to_unsigned 64 x)
    go true f g = let n = (number x w F).1 in let m = f refl in (omega arith, omega arith)
    go false f g = let n = (number x w F).1 in let m = g refl in (omega arith, omega arith)
