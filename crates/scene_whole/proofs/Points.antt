-- At a whole point a layer's model is the texel, and a plane's sample is the byte: a mix by 0 is its first operand.
-- Assumes nothing.
use mathlib.Core.Path.{◌≡◌, refl, sym, ◌∙◌}
use mathlib.Core.Bool.{Bool, true, false, cond}
use Prim.Native.Nat.{ℕ, ◌-◌, ◌*◌, ◌^◌, ◌≤◌, ◌<◌}
use native.Mathlib.Nat.{le_trans, mul-one, mul-zero, zero-mul, add-zero, sub-zero}
use native.Mathlib.Omega.{arith}
use borrow.Author.Tests.{le-ltb}
use lib.Dec.{ltb, lit<, lit≤}
use lib.IntN.{ℤ, pos}
use lib.ListN.{get_or}
use lib.Ieee.{Float, fin, binary32, up, down, round, sum, sub, mul, neg, of_bits, of_int, unlike}
use lib.Ieee.Exact.{HasValue}
use lib.Ieee.Fits.{down_pos}
use lib.Ieee.Scale.{round_same}
use lib.Ieee.Back.{round_whole}
use Rattle.rules.specs.Forms.{Plane}
use Rattle.rules.specs.Literals.{0·0}
use Rattle.rules.specs.Float.{◌⊕◌, ◌⊖◌, ◌⊗◌, float, mix}
use Rattle.rules.specs.Reading.{at, after, fraction, sample}
use Rattle.laws.proofs.Value.{by_value}
use Rattle.laws.proofs.Whole.{int_value, add_at}
use Rattle.laws.proofs.Points.{cut-float, value_neg}

-- ---- a mix by 0

difference : (a b : ℕ) → a ≤ 2 ^ 24 → b ≤ 2 ^ 24 → float b ⊖ float a ≡ sum binary32 false b true a 1
unfolding sub
difference a b A B =
    add_at binary32 (float b) (neg (float a)) false b true a (int_value binary32 (pos b) B) (value_neg (float a) false a 1 (int_value binary32 (pos a) A))

-- it is a whole number
whole_difference : (a b : ℕ) → a ≤ 2 ^ 24 → b ≤ 2 ^ 24 → HasValue (float b ⊖ float a) (ltb b a) (cond (ltb b a) (a - b) (b - a)) 1
unfolding sum
whole_difference a b A B = rw (difference a b A B) (go (ltb b a))
  where
    go : (t : Bool) → HasValue (cond t (round binary32 true (a - b) 1) (round binary32 false (b - a) 1)) t (cond t (a - b) (b - a)) 1
    go true = round_whole binary32 true (a - b) (omega arith)
    go false = round_whole binary32 false (b - a) (omega arith)

-- and times 0 it is nothing
nothing : (s : Bool) (c : ℕ) → 0 < c → round binary32 s 0 c ≡ fin s 0 (pos 0)
unfolding round
nothing s c C = round_same binary32 s 0 c 0 1 C (lit< tt) (sym (zero-mul c)) ∙ refl

zero_written : 0·0 ≡ fin false 0 (pos 0)
unfolding of_bits
zero_written = refl

product : (u : Bool) (m : ℕ) (e : ℤ) → fin u m e ⊗ fin false 0 (pos 0) ≡ round binary32 (unlike u false) (m * up e * (0 * 1)) (down e * 1)
unfolding mul
product u m e = refl

times_zero : (y : Float) (t : Bool) (k : ℕ) → HasValue y t k 1 → y ⊗ 0·0 ≡ fin (unlike t false) 0 (pos 0)
times_zero y t k v = by_value (λ y. y ⊗ 0·0 ≡ fin (unlike t false) 0 (pos 0)) y t k 1 v (λ m e q.
    rw (zero_written, product t m e, mul-zero (m * up e), mul-one (down e)) (nothing (unlike t false) (down e) (down_pos e)))

plus_zero : (a : ℕ) (s : Bool) → a ≤ 2 ^ 24 → float a ⊕ fin s 0 (pos 0) ≡ float a
unfolding sum of_int
plus_zero a s h = add_at binary32 (float a) (fin s 0 (pos 0)) false a s 0 (int_value binary32 (pos a) h) (refl, refl) ∙ go s
  where
    go : (s : Bool) → sum binary32 false a s 0 1 ≡ round binary32 false a 1
    go true = simp (le-ltb a 0 (omega arith), sub-zero a)
    go false = rw (add-zero a)

mix_none : (a b : ℕ) → a ≤ 2 ^ 24 → b ≤ 2 ^ 24 → mix (float a) (float b) 0·0 ≡ float a
unfolding mix
mix_none a b A B = rw (times_zero _ _ _ (whole_difference a b A B)) (plus_zero a _ A)

none_left : (n : ℕ) → n ≤ 4096 → fraction (float n) ≡ 0·0
unfolding sum round of_bits
none_left n h =
    let z : n - n ≡ 0 = omega arith in
    rw (cut-float n h, difference n n (omega arith) (omega arith)) (simp (le-ltb n n (omega arith), z))

-- ---- whole points

pub sample_whole : (p : Plane) (x y : ℕ) (size : ℕ × ℕ) → x ≤ 4096 → y ≤ 4096 → ((k : ℕ) → get_or p.bytes k 0 ≤ 255)
    → sample p (float x) (float y) size ≡ at p x y
unfolding sample
sample_whole p x y size X Y small =
    let row : (k : ℕ) → mix (at p x k) (at p (after x size.0) k) 0·0 ≡ at p x k = λ k. mix_none _ _ (le_trans (small _) (lit≤ tt)) (le_trans (small _) (lit≤ tt)) in
    rw (none_left x X, none_left y Y, cut-float x X, cut-float y Y, row y, row (after y size.1)) (mix_none _ _ (le_trans (small _) (lit≤ tt)) (le_trans (small _) (lit≤ tt)))
