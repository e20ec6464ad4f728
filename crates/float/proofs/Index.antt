-- An index from a float: held to 0 to n, then cut, whatever the float is. Assumes nothing.
use mathlib.Core.Path.{◌≡◌, refl, sym, subst}
use mathlib.Core.Bool.{Bool, true, false, not, cond}
use Prim.Native.Nat.{ℕ, ◌^◌, ◌≤◌, zero-le}
use lib.IntN.{pos}
use lib.Dec.{T}
use lib.Ieee.{Float, nan, inf, fin, binary32, lt, eq, le, ne, is_nan, of_int, of_bits, to_unsigned}
use lib.Ieee.Exact.{HasValue}
use Rattle.rules.specs.Literals.{lit}
use Rattle.rules.specs.Float.{max as max_of, clamp as clamp_of}
use Rattle.float.proofs.Basics.{ne_self}
use Rattle.laws.proofs.Order.{or_r, le_of_not_lt}
use Rattle.laws.proofs.Whole.{cut_le, int_value}

pub le_refl_float : (x : Float) → T (not (is_nan x)) → T (le x x)
unfolding le ne
le_refl_float x h = or_r (lt x x) (eq x x) (pick (eq x x) (is_nan x) (ne_self x) h)
  where
    pick : (e n : Bool) → not e ≡ n → T (not n) → T e
    pick true n p h = tt
    pick false n p h = subst (λ (b : Bool). T (not b)) (sym p) h

-- a float with a value is no NaN
valued : (y : Float) (s : Bool) (a c : ℕ) → HasValue y s a c → T (not (is_nan y))
unfolding is_nan
valued nan s a c v = v
valued (inf t) s a c v = tt
valued (fin t m e) s a c v = tt

pub int_no_nan : (n : ℕ) → n ≤ 2 ^ 24 → T (not (is_nan (of_int binary32 (pos n))))
int_no_nan n h = valued (of_int binary32 (pos n)) false n 1 (int_value binary32 (pos n) h)

cut_nan : (y : Float) → T (is_nan y) → to_unsigned 64 y ≡ 0
unfolding is_nan to_unsigned
cut_nan nan t = refl
cut_nan (inf s) t = absurd t
cut_nan (fin s m e) t = absurd t

pub cut_nought : to_unsigned 64 (lit 0) ≡ 0
unfolding of_bits to_unsigned
cut_nought = refl

-- what the upper end does not shut out is cut to at most n
cut_under : (x : Float) (n : ℕ) → n ≤ 2 ^ 24 → T (not (lt (of_int binary32 (pos n)) x)) → to_unsigned 64 x ≤ n
cut_under x n N h = go (is_nan x) (cut_nan x) (λ c. cut_le x n N (le_of_not_lt x (of_int binary32 (pos n)) c (int_no_nan n N) h))
  where
    go : (b : Bool) → (T b → to_unsigned 64 x ≡ 0) → (T (not b) → to_unsigned 64 x ≤ n) → to_unsigned 64 x ≤ n
    go true f g = subst (λ (k : ℕ). k ≤ n) (sym (f tt)) zero-le
    go false f g = g tt

pub cut_clamp : (x : Float) (n : ℕ) → n ≤ 2 ^ 24 → to_unsigned 64 (clamp_of x (lit 0) (of_int binary32 (pos n))) ≤ n
unfolding clamp_of
cut_clamp x n N = go (lt x (lit 0)) (lt (of_int binary32 (pos n)) x) (cut_under x n N)
  where
    go : (a b : Bool) → (T (not b) → to_unsigned 64 x ≤ n) → to_unsigned 64 (cond a (lit 0) (cond b (of_int binary32 (pos n)) x)) ≤ n
    go true b f = subst (λ (k : ℕ). k ≤ n) (sym cut_nought) zero-le
    go false true f = cut_le (of_int binary32 (pos n)) n N (le_refl_float (of_int binary32 (pos n)) (int_no_nan n N))
    go false false f = f tt

-- ---- `max` is at least its second operand, unless that is a NaN
pub max_right : (a b : Float) → T (not (is_nan b)) → T (le b (max_of a b))
unfolding max_of
max_right a b h = go (is_nan a) (lt a b) (λ c d. le_of_not_lt b a h c d)
  where
    go : (n l : Bool) → (T (not n) → T (not l) → T (le b a)) → T (le b (cond n b (cond l b a)))
    go true l f = le_refl_float b h
    go false true f = le_refl_float b h
    go false false f = f tt tt
