-- `x != x` is the test for a NaN. `x < 0` is the sign. Assumes nothing.
use mathlib.Core.Path.{◌≡◌, refl, sym, ap, ◌∙◌}
use mathlib.Core.Bool.{Bool, true, false, not, ◌&&◌, ◌||◌, beq, true≢false, false≢true}
use Prim.Native.Nat.{ℕ, zero, suc, ◌+◌, ◌*◌, ◌^◌, ◌≤◌, ◌<◌}
use native.Mathlib.Nat.{mul-pos, zero-lt-suc}
use native.Mathlib.Omega.{arith}
use lib.IntN.{ℤ, pos, negsuc}
use lib.Dec.{T, eqb, ltb, eqb_refl, eqb→eq, ltb→lt, nltb→le}
use lib.Pow.{pow-lt}
use lib.Ieee.{Float, nan, inf, fin, binary32, up, down, ne, lt, eq, neg, is_nan, fits}
use lib.Ieee.Bits.{is_true}
use lib.Ieee.Fits.{and_i, and_l, eq→eqb, up_pos}
use Rattle.rules.specs.Float.{abs as abs_of}
use Rattle.laws.proofs.Order.{neither}
use Rattle.laws.proofs.Value.{T_of, not_of, no}

pub ne_self : (x : Float) → ne x x ≡ is_nan x
unfolding ne is_nan
ne_self nan = refl
ne_self (inf true) = refl
ne_self (inf false) = refl
ne_self (fin true m e) = ap (λ (b : Bool). not (b && (true || eqb (m * up e * down e) 0))) (is_true (eqb (m * up e * down e) (m * up e * down e)) (eqb_refl (m * up e * down e)))
ne_self (fin false m e) = ap (λ (b : Bool). not (b && (true || eqb (m * up e * down e) 0))) (is_true (eqb (m * up e * down e) (m * up e * down e)) (eqb_refl (m * up e * down e)))

-- ---- `abs` by tests of x against 0
abbrev pub origin : Float
origin = fin false 0 (pos 0)

-- what has no sign is not below 0
pub not_below : (m : ℕ) (e : ℤ) → lt (fin false m e) origin ≡ true → ⊥
unfolding lt
not_below m e h = never (m * up e) (down e) (ltb→lt (m * up e * 1) (0 * 1 * down e) (T_of (ltb (m * up e * 1) (0 * 1 * down e)) h))
  where
    never : (x d : ℕ) → x * 1 < 0 * 1 * d → ⊥
    never x d h = omega arith

pub abs_below : (x : Float) → lt x origin ≡ true → neg x ≡ abs_of x
unfolding lt neg abs_of
abs_below nan h = refl
abs_below (inf true) h = refl
abs_below (inf false) h = absurd (false≢true h)
abs_below (fin true m e) h = refl
abs_below (fin false m e) h = absurd (not_below m e h)

-- a zero is written in one way
exponent : (e : ℤ) → T (eqb (up e * down e) 1) → e ≡ pos 0
exponent (pos zero) t = refl
exponent (pos (suc k)) t = absurd (past (2 ^ suc k) (pow-lt (zero-lt-suc k)) (eqb→eq (2 ^ suc k * 1) 1 t))
  where
    past : (n : ℕ) → 1 < n → n * 1 ≡ 1 → ⊥
    past n h e = omega arith
exponent (negsuc k) t = absurd (past (2 ^ suc k) (pow-lt (zero-lt-suc k)) (eqb→eq (1 * 2 ^ suc k) 1 t))
  where
    past : (n : ℕ) → 1 < n → 1 * n ≡ 1 → ⊥
    past n h e = omega arith

pub abs_zero : (x : Float) → T (fits binary32 x) → eq x origin ≡ true → origin ≡ abs_of x
unfolding eq abs_of fits
abs_zero nan F h = absurd (false≢true h)
abs_zero (inf s) F h = absurd (false≢true h)
abs_zero (fin s zero e) F h = ap (λ (k : ℤ). fin false 0 k) (sym (exponent e F))
abs_zero (fin s (suc m) e) F h =
    let x = suc m * up e * 1 in
    let y = 0 * 1 * down e in
    absurd (never (suc m * up e) (down e) (mul-pos (zero-lt-suc m) (up_pos e)) (eqb→eq x y (and_l (eqb x y) (beq s false || eqb x 0) (T_of (eqb x y && (beq s false || eqb x 0)) h))))
  where
    never : (x d : ℕ) → 0 < x → x * 1 ≡ 0 * 1 * d → ⊥
    never x d h k = omega arith

pub abs_above : (x : Float) → lt x origin ≡ false → eq x origin ≡ false → x ≡ abs_of x
unfolding lt eq abs_of
abs_above nan a b = refl
abs_above (inf true) a b = absurd (true≢false a)
abs_above (inf false) a b = refl
abs_above (fin false m e) a b = refl
abs_above (fin true m e) a b =
    let x = m * up e * 1 in
    let y = 0 * 1 * down e in
    let l : x + y ≤ 0 = nltb→le 0 (x + y) (not_of (ltb 0 (x + y)) a) in
    let n = neither x y l in
    absurd (no (eqb x y && eqb x 0) b (and_i (eqb x y) (eqb x 0) (eq→eqb (n.0 ∙ sym n.1)) (eq→eqb n.0)))
