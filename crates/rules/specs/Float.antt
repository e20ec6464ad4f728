-- "Floats follow IEEE 754 binary32. Each operation rounds once, in the Rust's order, never fused."
use Rattle.std.specs.Prelude.{◌&&◌, ◌+◌, ◌*◌, ◌/◌}
use Rattle.rules.specs.Words.{Bool, false, cond, ℕ, ℤ, pos, neg_ℤ, Float, nan, inf, fin, binary32, of_int, to_unsigned, is_nan, up, down}
use Prim.Native.Nat as Nat
use Rattle.std.specs.Float.Ieee as Ieee

-- ---- the Rust's operators on f32

infix 50 ◌≺◌ ◌≼◌
infixl 60 ◌⊕◌ ◌⊖◌
infixl 70 ◌⊗◌ ◌⊘◌
-- a sum, a difference, a product and a quotient, each rounded once
abbrev pub ◌⊕◌ : Float → Float → Float
x ⊕ y = Ieee.add binary32 x y

abbrev pub ◌⊖◌ : Float → Float → Float
x ⊖ y = Ieee.sub binary32 x y

abbrev pub ◌⊗◌ : Float → Float → Float
x ⊗ y = Ieee.mul binary32 x y

abbrev pub ◌⊘◌ : Float → Float → Float
x ⊘ y = Ieee.div binary32 x y

-- below, and at most; false where one is a NaN
abbrev pub ◌≺◌ : Float → Float → Bool
x ≺ y = Ieee.lt x y

abbrev pub ◌≼◌ : Float → Float → Bool
x ≼ y = Ieee.le x y

-- from lo to hi; false for a NaN
abbrev pub within : (x lo hi : Float) → Bool
within x lo hi = (lo ≼ x) && (x ≼ hi)

-- a whole number as a float, from 0 on
abbrev pub float : ℕ → Float
float n = of_int binary32 (pos n)

-- a whole number as a float, with its sign
abbrev pub signed : ℤ → Float
signed z = of_int binary32 z

-- ---- the Rust's functions on f32

-- x without its sign
unfoldable pub abs : Float → Float
abs nan = nan
abs (inf s) = inf false
abs (fin s m e) = fin false m e

-- the smaller, and where one is a NaN the other
unfoldable pub min : Float → Float → Float
min a b = cond (is_nan a) b (cond (b ≺ a) b a)

-- the larger, and where one is a NaN the other
unfoldable pub max : Float → Float → Float
max a b = cond (is_nan a) b (cond (a ≺ b) b a)

-- x, or the end that it lies beyond; a NaN stays
unfoldable pub clamp : (x lo hi : Float) → Float
clamp x lo hi = cond (x ≺ lo) lo (cond (hi ≺ x) hi x)

-- `as usize`: the fraction dropped, 0 for a NaN or a negative x
abbrev pub cut : Float → ℕ
cut x = to_unsigned 64 x

-- from a, at t = 0, to b, at t = 1
unfoldable pub mix : (a b t : Float) → Float
mix a b t = a ⊕ (b ⊖ a) ⊗ t

-- the middle one of three
unfoldable pub median : (a b c : Float) → Float
median a b c = max (min a b) (min (max a b) c)

-- ---- rounding, in whole numbers on the float's own fraction

-- the whole number nearest to m * 2 ^ e, of two as near the larger: with 2 ^ e as the fraction up e / down e, m * 2 ^ e
-- + 1 / 2, cut
abbrev pub nearest : ℕ → ℤ → ℕ
nearest m e = (2 * (m * up e) + down e) / (2 * down e)

-- the size of x, "rounded half away from zero, held to" most, "NaN as 0"
unfoldable pub rounded : (most : ℕ) → Float → ℕ
rounded most nan = 0
rounded most (inf s) = most
rounded most (fin s m e) = Nat.min (nearest m e) most

-- whether x has a minus sign
unfoldable pub negative : Float → Bool
negative nan = false
negative (inf s) = s
negative (fin s m e) = s

-- "`pixel` rounds halves away, holds to 0..255, NaN gives 0."
unfoldable pub pixel : Float → ℕ
pixel x = cond (negative x) 0 (rounded 255 x)

-- "rounded half away from zero, held to ±32767, NaN as 0"
unfoldable pub rounded_short : Float → ℤ
rounded_short y = let size = pos (rounded 32767 y) in cond (negative y) (neg_ℤ size) size

-- "times the scale", and so rounded
unfoldable pub stored : (value scale : Float) → ℤ
stored value scale = rounded_short (value ⊗ scale)
