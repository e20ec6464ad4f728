-- A pixel's column and row as floats, and a stored gain against 0.2. Assumes nothing.
use mathlib.Core.Path.{◌≡◌, refl, ap, ◌∙◌}
use mathlib.Core.Bool.{Bool, true, false, not, cond}
use Prim.Native.Nat.{ℕ, zero, suc, ◌+◌, ◌-◌, ◌*◌, ◌^◌, ◌≤◌, ◌<◌, min}
use lib.Pow.{pow_pos}
use native.Mathlib.Nat.{le_trans, mul-pos}
use native.Mathlib.Omega.{arith}
use borrow.Author.Tests.{le-ltb}
use lib.IntN.{ℤ, pos, negsuc, neg_ℤ, nat_abs}
use lib.Signed.{mag, lt_z}
use lib.Dec.{T, ltb, le→leb, lit<, lit≤}
use lib.Ieee.{Float, nan, inf, fin, Format, binary32, up, down, round, units, odd, sum, neg, sub, div, eq, lt, of_bits, in_float, prec, low, emax, unlike}
use lib.Ieee.Exact.{HasValue}
use lib.Ieee.Fits.{down_pos}
use lib.Ieee.Scale.{round_same}
use lib.Ieee.Order.{round_mono}
use lib.Ieee.Back.{unsigned_back}
use Rattle.rules.specs.Literals.{0·0, 0·2, 4096·0}
use Rattle.rules.specs.Float.{◌⊖◌, ◌⊘◌, ◌≼◌, float, signed, cut, abs, ◌⊗◌, rounded, negative, stored, rounded_short}
use Rattle.rules.specs.Forms.{Layer}
use Rattle.rules.specs.Model.{plain, set}
use Rattle.rules.specs.Assembly.{stored_total}
use Rattle.rules.specs.Reading.{fraction, texel, model_at}
use Rattle.laws.proofs.Signed.{mag_within, neg_size}
use Rattle.laws.proofs.Value.{by_value}
use Rattle.laws.proofs.Whole.{minus?, int_value, add_at}

-- ---- a whole number as a float

-- cut, it is the number again
pub cut-float : (n : ℕ) → n ≤ 4096 → cut (float n) ≡ n
unfolding in_float
cut-float n h = (unsigned_back binary32 64 n (le→leb n (2 ^ 24) (omega arith)) (omega arith)).1

-- with the other sign
pub value_neg : (x : Float) (s : Bool) (a c : ℕ) → HasValue x s a c → HasValue (neg x) (not s) a c
unfolding neg
value_neg nan s a c v = v
value_neg (inf t) s a c v = v
value_neg (fin t m e) s a c v = (ap not v.0, v.1)

-- taken from itself, it leaves 0
none_left : (n : ℕ) → n ≤ 4096 → float n ⊖ float n ≡ round binary32 false 0 1
unfolding sub sum
none_left n h =
    let v : HasValue (float n) false n 1 = int_value binary32 (pos n) (omega arith) in
    let z : n - n ≡ 0 = omega arith in
    add_at binary32 (float n) (neg (float n)) false n true n v (value_neg (float n) false n 1 v) ∙ simp (le-ltb n n (omega arith), z)

zero_eq : eq (round binary32 false 0 1) 0·0 ≡ true
unfolding round eq of_bits
zero_eq = refl

pub fraction-float : (n : ℕ) → n ≤ 4096 → eq (fraction (float n)) 0·0 ≡ true
fraction-float n h = rw (cut-float n h, none_left n h) zero_eq

-- at a pixel the model is its texel
pub model_whole : (l : Layer) (plane x y : ℕ) → x ≤ 4096 → y ≤ 4096 → model_at l plane (float x) (float y) ≡ texel l plane x y
unfolding model_at
model_whole l plane x y a b = rw (fraction-float x a, fraction-float y b, cut-float x a, cut-float y b)

-- ---- a stored gain against 0.2

abs_odd : (d : ℕ) (s : Bool) (q k l : ℕ) → abs (odd d s q k l) ≡ odd d false q k l
unfolding odd abs
abs_odd d s zero k l = refl
abs_odd d s (suc q) k l = refl

abs_units : (f : Format) (s : Bool) (q k : ℕ) → abs (units f s q k) ≡ units f false q k
unfolding units abs
abs_units f s q k = go (ltb (q * 2 ^ k) (2 ^ (low f + suc (emax f)))) (suc (prec f)) (low f)
  where
    go : (b : Bool) (d l : ℕ) → abs (cond b (odd d s q k l) (inf s)) ≡ cond b (odd d false q k l) (inf false)
    go true d l = abs_odd d s q k l
    go false d l = refl

abs_round : (f : Format) (s : Bool) (a c : ℕ) → abs (round f s a c) ≡ round f false a c
unfolding round
abs_round f s a c = abs_units f s _ _

-- a whole number by 2 ^ k
pub div_at : (k : ℕ) (x : Float) (s : Bool) (a : ℕ) → HasValue x s a 1 → x ⊘ fin false 1 (pos k) ≡ round binary32 s a (2 ^ k)
unfolding div
div_at k x s a v = by_value (λ x. x ⊘ fin false 1 (pos k) ≡ round binary32 s a (2 ^ k)) x s a 1 v (λ m e q.
    ap (λ (z : Bool). round binary32 z (m * up e * 1) (1 * 2 ^ k * down e)) (sign s)
    ∙ round_same binary32 s (m * up e * 1) (1 * 2 ^ k * down e) a (2 ^ k) (above (2 ^ k) (down e) (mul-pos (pow_pos k) (down_pos e))) (pow_pos k)
    (cross (m * up e * 1) a (2 ^ k) (down e) q))
  where
    sign : (t : Bool) → unlike t false ≡ t
    sign true = refl
    sign false = refl

    above : (p d : ℕ) → 0 < p * d → 0 < 1 * p * d
    above p d h = omega arith

    cross : (x a p d : ℕ) → x ≡ a * d → x * p ≡ a * (1 * p * d)
    cross x a p d e = rw e (omega arith)

scale_is : 4096·0 ≡ fin false 1 (pos 12)
unfolding of_bits
scale_is = refl

fifth_is : 0·2 ≡ round binary32 false 13421773 (2 ^ 26)
unfolding of_bits round
fifth_is = refl

-- a gain whose size, in 4096ths, is at least that of 0.2
pub fifth : (g : ℤ) → nat_abs g ≤ 2 ^ 15 → 13421773 * 4096 ≤ nat_abs g * 2 ^ 26 → T (0·2 ≼ abs (signed g ⊘ 4096·0))
fifth g small large =
    rw (scale_is, div_at 12 (signed g) (minus? g) (nat_abs g) (int_value binary32 g (le_trans small (lit≤ tt))), abs_round binary32 (minus? g) (nat_abs g) 4096, fifth_is)
    (round_mono binary32 13421773 (2 ^ 26) (nat_abs g) 4096 (lit< tt) (lit< tt) large)

-- a stored number is "held to ±32767"
pub stored_small : (v s : Float) → nat_abs (stored v s) ≤ 32767
unfolding stored rounded_short rounded
stored_small v s = go (negative (v ⊗ s)) (rounded 32767 (v ⊗ s)) (rounded_small (v ⊗ s))
  where
    rounded_small : (y : Float) → rounded 32767 y ≤ 32767
    rounded_small nan = lit≤ tt
    rounded_small (inf t) = lit≤ tt
    rounded_small (fin t m e) = held _
      where
        held : (a : ℕ) → min a 32767 ≤ 32767
        held a = omega arith

    go : (b : Bool) (n : ℕ) → n ≤ 32767 → nat_abs (cond b (neg_ℤ (pos n)) (pos n)) ≤ 32767
    go true n h = rw (neg_size n) h
    go false n h = h

-- a stored total is "held to -32768 or 32767"
pub total_small : (total : ℤ) → mag (stored_total total).0 < 32768
unfolding stored_total
total_small total = go (lt_z total (negsuc 32767)) (lt_z (pos 32767) total) refl refl
  where
    go : (low high : Bool) → lt_z total (negsuc 32767) ≡ low → lt_z (pos 32767) total ≡ high → mag (cond low (negsuc 32767) (cond high (pos 32767) total)) < 32768
    go true high e f = lit< tt
    go false true e f = lit< tt
    go false false e f = mag_within 32767 total e f

-- ---- the plain model is not set
pub set-plain : set plain ≡ false
unfolding set abs lt sub of_bits
set-plain = refl
