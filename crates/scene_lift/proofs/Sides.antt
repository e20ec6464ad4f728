-- The size of a float, tested from both sides; one of two values by two such tests. Assumes nothing.
use mathlib.Core.Path.{◌≡◌, refl, sym, ap}
use mathlib.Core.Bool.{Bool, true, false, cond, ◌&&◌, ◌||◌}
use Prim.Native.Nat.{ℕ, ◌+◌, ◌*◌, ◌<◌}
use native.Mathlib.Nat.{mul-pos}
use native.Mathlib.Omega.{arith}
use borrow.Author.Tests.{lt-ltb}
use Rattle.std.proofs.Math.Bool.{and-true}
use lib.IntN.{ℤ, negsuc}
use lib.Ieee.{Float, nan, inf, fin, of_bits, up, down, lt, eq, le, neg}
use lib.Ieee.Fits.{up_pos, down_pos}
use Rattle.rules.specs.Literals.{0·2, 2·5}
use Rattle.rules.specs.Float.{◌≺◌, ◌≼◌, abs}

-- a test that NaN and the largest fail, and that what is below 0 passes
sides : (test : Float → Bool) → test nan ≡ false → test (inf true) ≡ true → test (inf false) ≡ false → ((m : ℕ) (e : ℤ) → test (fin true m e) ≡ true)
    → (x : Float) → test (abs x) ≡ (test x && test (neg x))
unfolding neg abs
sides test n i j minus nan = rw n
sides test n i j minus (inf true) = rw (i, j)
sides test n i j minus (inf false) = rw j
sides test n i j minus (fin true m e) = simp (minus m e)
sides test n i j minus (fin false m e) = rw (minus m e) (sym (and-true (test (fin false m e))))

-- n * 2 ^ d is above 0
module _ (n : ℕ) (d : ℤ) (N : 0 < n) where
  minus_below : (m : ℕ) (e : ℤ) → lt (fin true m e) (fin false n d) ≡ true
  unfolding lt
  minus_below m e = let h = mul-pos (mul-pos N (up_pos d)) (down_pos e) in lt-ltb 0 (m * up e * down d + n * up d * down e) (omega arith)

  below_sides : (x : Float) → lt (abs x) (fin false n d) ≡ (lt x (fin false n d) && lt (neg x) (fin false n d))
  unfolding lt
  below_sides = sides (λ x. lt x (fin false n d)) refl refl refl minus_below

  at_most_sides : (x : Float) → le (abs x) (fin false n d) ≡ (le x (fin false n d) && le (neg x) (fin false n d))
  unfolding le lt eq
  at_most_sides = sides (λ x. le x (fin false n d)) refl refl refl (λ m e. ap (λ (b : Bool). b || eq (fin true m e) (fin false n d)) (minus_below m e))

-- the two tests of unpeel
pub weak_sides : (x : Float) → (abs x ≺ 0·2) ≡ ((x ≺ 0·2) && (neg x ≺ 0·2))
unfolding of_bits
weak_sides = below_sides 13421773 (negsuc 25) (omega arith)

pub near_sides : (x : Float) → (abs x ≼ 2·5) ≡ ((x ≼ 2·5) && (neg x ≼ 2·5))
unfolding of_bits
near_sides = at_most_sides 5 (negsuc 0) (omega arith)

-- one of two by two pairs of tests
pub picked : (a b p q : Bool) (x y : Float) → cond a (cond b x (cond p (cond q x y) y)) (cond p (cond q x y) y) ≡ cond ((a && b) || (p && q)) x y
picked true true p q x y = refl
picked true false true true x y = refl
picked true false true false x y = refl
picked true false false q x y = refl
picked false b true true x y = refl
picked false b true false x y = refl
picked false b false q x y = refl
