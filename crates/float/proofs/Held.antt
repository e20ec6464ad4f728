-- `size_to` by tests of the float: in range it is the rounded size, past the end it is the end, and at 0 and below it
-- is of no account. Assumes nothing.
use mathlib.Core.Path.{◌≡◌, refl, sym, ap, ◌∙◌, subst}
use Prim.Native.Nat.{ℕ, ◌+◌, ◌*◌, ◌/◌, ◌≤◌, ◌<◌, min}
use native.Mathlib.Nat.{le_trans, le_of_eq, le_of_suc-le-suc, mul_left_comm, mul-one, suc-mul, add_comm, div-lt_iff_lt-mul, le-div_iff_mul-le, mul-pos, zero-lt-suc}
use native.Mathlib.Omega.{arith}
use mathlib.Core.Bool.{true, false, cond, true≢false, false≢true}
use lib.IntN.{ℤ, pos}
use lib.Dec.{ltb, lt→ltb, ltb→lt, nltb→le}
use lib.Ieee.{Float, nan, inf, fin, up, down, neg, lt}
use lib.Ieee.Fits.{down_pos}
use lib.Ieee.Bits.{is_true}
use Rattle.rules.specs.Float.{nearest, negative, rounded as size_to}
use Rattle.float.specs.Nearest.{size_of}
use Rattle.float.proofs.Basics.{origin, not_below}
use Rattle.laws.proofs.Value.{not_of, T_of}

under : (A d L : ℕ) → 0 < d → A < L * d → (2 * A + d) / (2 * d) ≤ L
under A d L D h =
    le_of_suc-le-suc ((div-lt_iff_lt-mul (mul-pos (zero-lt-suc 1) D)).1
    (subst (λ (z : ℕ). 2 * A + d < z) (sym (suc-mul L (2 * d) ∙ ap (λ (z : ℕ). z + 2 * d) (mul_left_comm L 2 d))) (room (L * d) D h)))
  where
    room : (t : ℕ) → 0 < d → A < t → 2 * A + d < 2 * t + 2 * d
    room t D h = omega arith

over : (A d L : ℕ) → 0 < d → L * d ≤ A → L ≤ (2 * A + d) / (2 * d)
over A d L D h = (le-div_iff_mul-le (mul-pos (zero-lt-suc 1) D)).1 (le_trans (le_of_eq (mul_left_comm L 2 d)) (room (L * d) h))
  where
    room : (t : ℕ) → t ≤ A → 2 * t ≤ 2 * A + d
    room t h = omega arith

held : (a b : ℕ) → a ≤ b → min a b ≡ a
held a b h = omega arith

at_end : (a b : ℕ) → b ≤ a → min a b ≡ b
at_end a b h = omega arith

-- a zero rounds to 0
none : (L m : ℕ) (e : ℤ) → m * up e ≤ 0 → min (nearest m e) L ≡ 0
none L m e h =
    let q : nearest m e < 1 = (div-lt_iff_lt-mul {y = 1} (mul-pos (zero-lt-suc 1) (down_pos e))).1 (omega (arith, down_pos e)) in
    omega arith

-- what has no sign and is not above 0 is a zero
not_over : (m : ℕ) (e : ℤ) → lt origin (fin false m e) ≡ false → m * up e ≤ 0
unfolding lt
not_over m e a = omega (arith, nltb→le (0 * 1 * down e) (m * up e * 1) (not_of (ltb (0 * 1 * down e) (m * up e * 1)) a))

-- above 0 and below L
pub record Inside (L : ℕ) (x : Float) : Type 0 where
  pub fits : size_of x ≤ L
  pub same : size_to L x ≡ size_of x
  pub sign : negative x ≡ false

pub inside : (L : ℕ) (x : Float) → lt origin x ≡ true → lt x (fin false L (pos 0)) ≡ true → Inside L x
unfolding lt size_of size_to negative
inside L nan a b = absurd (false≢true a)
inside L (inf true) a b = absurd (false≢true a)
inside L (inf false) a b = absurd (false≢true b)
inside L (fin true m e) a b = absurd (false≢true a)
inside L (fin false m e) a b =
    let l : m * up e * 1 < L * 1 * down e = ltb→lt (m * up e * 1) (L * 1 * down e) (T_of (ltb (m * up e * 1) (L * 1 * down e)) b) in
    let h : nearest m e ≤ L = under (m * up e) (down e) L (down_pos e) (rw (mul-one, mul-one) at l) in
    record { fits = h; same = held (nearest m e) L h; sign = refl }

-- at L or above
pub record Past (L : ℕ) (x : Float) : Type 0 where
  pub same : size_to L x ≡ L
  pub sign : negative x ≡ false

pub past : (L : ℕ) (x : Float) → lt origin x ≡ true → lt x (fin false L (pos 0)) ≡ false → Past L x
unfolding lt size_to negative
past L nan a b = absurd (false≢true a)
past L (inf true) a b = absurd (false≢true a)
past L (inf false) a b = record { same = refl; sign = refl }
past L (fin true m e) a b = absurd (false≢true a)
past L (fin false m e) a b =
    let l : L * 1 * down e ≤ m * up e * 1 = nltb→le (m * up e * 1) (L * 1 * down e) (not_of (ltb (m * up e * 1) (L * 1 * down e)) b) in
    record { same = at_end (nearest m e) L (over (m * up e) (down e) L (down_pos e) (rw (mul-one, mul-one) at l)); sign = refl }

-- not above 0
pub not_above : (L : ℕ) (x : Float) → lt origin x ≡ false → cond (negative x) 0 (size_to L x) ≡ 0
unfolding lt size_to negative
not_above L nan a = refl
not_above L (inf true) a = refl
not_above L (inf false) a = absurd (true≢false a)
not_above L (fin true m e) a = refl
not_above L (fin false m e) a = none L m e (not_over m e a)

-- ---- the other side of 0
pub flip_origin : (y : Float) → lt y origin ≡ true → lt origin (neg y) ≡ true
unfolding lt neg
flip_origin nan h = h
flip_origin (inf true) h = refl
flip_origin (inf false) h = h
flip_origin (fin true m e) h =
    is_true (ltb (0 * 1 * down e) (m * up e * 1))
    (lt→ltb (0 * 1 * down e) (m * up e * 1) (more (m * up e) (down e) (ltb→lt 0 (m * up e * 1 + 0 * 1 * down e) (T_of (ltb 0 (m * up e * 1 + 0 * 1 * down e)) h))))
  where
    more : (x d : ℕ) → 0 < x * 1 + 0 * 1 * d → 0 * 1 * d < x * 1
    more x d h = omega arith
flip_origin (fin false m e) h = absurd (not_below m e h)

pub flip_end : (L : ℕ) (y : Float) → lt (fin true L (pos 0)) y ≡ lt (neg y) (fin false L (pos 0))
unfolding lt neg
flip_end L nan = refl
flip_end L (inf true) = refl
flip_end L (inf false) = refl
flip_end L (fin true m e) = refl
flip_end L (fin false m e) = ap (λ (z : ℕ). ltb 0 z) (add_comm (L * 1 * down e) (m * up e * 1))

pub below_origin : (y : Float) → lt y origin ≡ true → negative y ≡ true
unfolding lt negative
below_origin nan h = absurd (false≢true h)
below_origin (inf true) h = refl
below_origin (inf false) h = absurd (false≢true h)
below_origin (fin true m e) h = refl
below_origin (fin false m e) h = absurd (not_below m e h)

pub size_neg : (L : ℕ) (y : Float) → size_to L (neg y) ≡ size_to L y
unfolding size_to neg
size_neg L nan = refl
size_neg L (inf s) = refl
size_neg L (fin s m e) = refl

-- neither above 0 nor below
pub at_origin : (L : ℕ) (y : Float) → lt origin y ≡ false → lt y origin ≡ false → size_to L y ≡ 0
unfolding lt size_to
at_origin L nan a b = refl
at_origin L (inf true) a b = absurd (true≢false b)
at_origin L (inf false) a b = absurd (true≢false a)
at_origin L (fin true m e) a b =
    none L m e (omega (arith, nltb→le 0 (m * up e * 1 + 0 * 1 * down e) (not_of (ltb 0 (m * up e * 1 + 0 * 1 * down e)) b)))
at_origin L (fin false m e) a b = none L m e (not_over m e a)
