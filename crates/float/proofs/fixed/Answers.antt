-- `float::fixed` meets its contract. Assumes nothing.
use mathlib.Core.Path.{◌≡◌, sym, ap, ◌∙◌, subst}
use Prim.Native.Nat.{ℕ, zero, suc, ◌^◌, ◌<◌}
use native.Mathlib.Nat.{le_of_lt}
use native.Mathlib.Omega.{arith}
use mathlib.Core.Bool.{Bool, true, false, cond}
use lib.IntN.{ℤ, pos, neg_ℤ, ◌-ℤ◌, +ℤ_idl}
use lib.Dec.{T}
use lib.Ieee.{Float, fin, of_bits, lt, neg, mul, binary32}
use mir.Syntax.{w16}
use mir.Val.{to_z, of_z, SFits}
use mir.Facts.{to_z_pos, to_z-of_z}
use Rattle.rules.specs.Float.{stored, rounded_short, negative}
use Rattle.float.specs.Nearest.{size_of}
use Rattle.laws.proofs.Value.{T_of}
use Rattle.laws.proofs.Order.{lt_trans_float}
use Rattle.float.proofs.Held.{Inside, inside, past, flip_origin, flip_end, below_origin, size_neg, at_origin}
use Rattle.float.proofs.fixed.Goals as goal

-- what `nearest` asks, of a float above 0 and below 32767
asked : (y : Float) → lt (fin false 0 (pos 0)) y ≡ true → lt y (fin false 32767 (pos 0)) ≡ true → T (lt (fin false 0 (pos 0)) y) × T (lt y (fin false 1 (pos 16)))
asked y a b = (T_of (lt (fin false 0 (pos 0)) y) a, lt_trans_float y (fin false 32767 (pos 0)) (fin false 1 (pos 16)) (T_of (lt y (fin false 32767 (pos 0))) b) (unfold lt in tt))

-- a size in range, as a number of 16 bits, and its negative
small : (y : Float) (n : ℕ) → Inside 32767 y → n ≡ size_of y → n < 2 ^ 15
small y n i e = omega (arith, i.fits)

minus : (n : ℕ) → n < 2 ^ 15 → pos 0 -ℤ to_z w16 n ≡ neg_ℤ (pos n)
minus n h = ap (λ (z : ℤ). pos 0 -ℤ z) (to_z_pos w16 h) ∙ +ℤ_idl (neg_ℤ (pos n))

minus_fits : (n : ℕ) → n < 2 ^ 15 → SFits w16 (neg_ℤ (pos n))
minus_fits zero h = record { sfits = h }
minus_fits (suc n) h = record { sfits = le_of_lt h }

abbrev Y : (value scale : Float) → Float
Y value scale = mul binary32 value scale

-- the branch above 0, and the one below
module _ (y : Float) (a : lt (fin false 0 (pos 0)) y ≡ true) (b : lt y (fin false 32767 (pos 0)) ≡ true) (n : ℕ) (e : n ≡ size_of y) where
  up_is : to_z w16 n ≡ rounded_short y
  unfolding rounded_short
  up_is =
      let i = inside 32767 y a b in
      to_z_pos w16 (small y n i e) ∙ ap pos e ∙ sym (simp (i.sign, i.same))

module _ (y : Float) (a : lt y (fin false 0 (pos 0)) ≡ true) (b : lt (fin true 32767 (pos 0)) y ≡ true) (n : ℕ) (e : n ≡ size_of (neg y)) where
  down-in : Inside 32767 (neg y)
  down-in = inside 32767 (neg y) (flip_origin y a) (sym (flip_end 32767 y) ∙ b)

  down-small : n < 2 ^ 15
  down-small = small (neg y) n down-in e

  down_is : neg_ℤ (pos n) ≡ rounded_short y
  unfolding rounded_short
  down_is = ap (λ (k : ℕ). neg_ℤ (pos k)) (e ∙ sym down-in.same ∙ size_neg 32767 y) ∙ sym (simp (below_origin y a))

pub nearest-requires : goal.nearest-requires
unfolding of_bits
nearest-requires c =
    let p = asked (Y c.args.value c.args.scale) c.if-y.true c.if-y-2.true in
    record { above = p.0; low = p.1 }

pub overflow_cast-result : goal.overflow_cast-result
unfolding of_bits
overflow_cast-result c =
    let y = Y c.args.value c.args.scale in
    record { sfits = small y c.nearest.result (inside 32767 y c.if-y.true c.if-y-2.true) c.nearest.ensures }

pub nearest-requires-then-y-4 : goal.nearest-requires-then-y-4
unfolding of_bits neg
nearest-requires-then-y-4 c =
    let y = Y c.args.value c.args.scale in
    let p = asked (neg y) (flip_origin y c.if-y-3.true) (sym (flip_end 32767 y) ∙ c.if-y-4.true) in
    record { above = p.0; low = p.1 }

pub overflow_cast-result-then-y-4 : goal.overflow_cast-result-then-y-4
unfolding of_bits neg
overflow_cast-result-then-y-4 c =
    let y = Y c.args.value c.args.scale in
    record { sfits = down-small y c.if-y-3.true c.if-y-4.true c.nearest-then-y-4.result c.nearest-then-y-4.ensures }

pub overflow_sub-result : goal.overflow_sub-result
unfolding of_bits neg
overflow_sub-result c =
    let y = Y c.args.value c.args.scale in
    let n = c.nearest-then-y-4.result in
    let h = down-small y c.if-y-3.true c.if-y-4.true n c.nearest-then-y-4.ensures in
    subst (λ (z : ℤ). SFits w16 z) (sym (minus n h)) (minus_fits n h)

pub returns-then-y-2 : goal.returns-then-y-2
unfolding of_bits stored rounded_short
returns-then-y-2 c =
    up_is (Y c.args.value c.args.scale) c.if-y.true c.if-y-2.true c.nearest.result c.nearest.ensures

pub returns-else-y-2 : goal.returns-else-y-2
unfolding of_bits stored rounded_short
returns-else-y-2 c =
    let p = past 32767 (Y c.args.value c.args.scale) c.if-y.true c.if-y-2.false in
    sym (simp (p.sign, p.same))

pub returns-then-y-4 : goal.returns-then-y-4
unfolding of_bits neg stored rounded_short
returns-then-y-4 c =
    let y = Y c.args.value c.args.scale in
    let n = c.nearest-then-y-4.result in
    let a = c.if-y-3.true in
    let b = c.if-y-4.true in
    let h = down-small y a b n c.nearest-then-y-4.ensures in
    ap (λ (z : ℤ). to_z w16 (of_z w16 z)) (minus n h) ∙ to_z-of_z (minus_fits n h) ∙ down_is y a b n c.nearest-then-y-4.ensures

pub returns-else-y-4 : goal.returns-else-y-4
unfolding of_bits neg stored rounded_short
returns-else-y-4 c =
    let y = Y c.args.value c.args.scale in
    let p = past 32767 (neg y) (flip_origin y c.if-y-3.true) (sym (flip_end 32767 y) ∙ c.if-y-4.false) in
    sym (simp (below_origin y c.if-y-3.true, sym (size_neg 32767 y) ∙ p.same))

pub returns-else-y-3 : goal.returns-else-y-3
unfolding of_bits stored rounded_short
returns-else-y-3 c =
    let y = Y c.args.value c.args.scale in
    sym (nought (negative y) (at_origin 32767 y c.if-y.false c.if-y-3.false))
  where
    nought : {k : ℕ} (b : Bool) → k ≡ 0 → cond b (neg_ℤ (pos k)) (pos k) ≡ pos 0
    nought true e = ap (λ (n : ℕ). neg_ℤ (pos n)) e
    nought false e = ap pos e
