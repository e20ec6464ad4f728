-- The gain of a pixel's texel, by the whole total of its stored gains. Assumes nothing.
use mathlib.Core.Path.{◌≡◌, refl, sym, ap, ◌∙◌}
use mathlib.Core.Bool.{Bool, true, false, cond}
use mathlib.Core.List.{List}
use Prim.Native.Nat.{ℕ, suc, ◌+◌, ◌-◌, ◌*◌, ◌≤◌}
use native.Mathlib.Nat.{le_trans, zero-add, add-zero, mul-one}
use native.Mathlib.Omega.{arith}
use borrow.Author.Tests.{lt-ltb}
use lib.Dec.{eqb, lit≤}
use lib.IntN.{ℤ, pos, negsuc, nat_abs, ◌+ℤ◌}
use lib.ListN.{get_or}
use lib.Ieee.{binary32, mul, of_bits, of_int}
use Rattle.rules.specs.Forms.{Layer, plane_ratio, turns, scan_row, scan}
use Rattle.rules.specs.Literals.{0·0, 4096·0}
use Rattle.rules.specs.Float.{◌⊕◌, ◌⊗◌, float, signed}
use Rattle.rules.specs.Reading.{gain_total, luma_texel, chroma_texel, texel}
use Rattle.laws.proofs.Whole.{zero_is, add_int}
use Rattle.layer_lent.specs.declared.Plan.{Plan}
use Rattle.layer_lent.specs.Lent.{Planned}
use Rattle.layer_lent.proofs.Plans.{span_is}
use Rattle.layer_numbers.specs.Stored.{row_total, block_total, BlockSummed, gain_by, Summed}

-- 0 and a number
nought : (z : ℤ) → pos 0 +ℤ z ≡ z
nought (pos n) = ap pos (zero-add n)
nought (negsuc n) = simp (lt-ltb 0 (suc n) (omega arith)) (ap negsuc (back n))
  where
    back : (n : ℕ) → suc n - 1 ≡ n
    back n = omega arith

single : (z : ℤ) → nat_abs z ≤ 32768 → 0·0 ⊕ signed z ≡ signed z
single z small = rw (← zero_is) (add_int binary32 (pos 0) z (lit≤ tt) (le_trans small (lit≤ tt)) ∙ ap signed (nought z))

pub scale_one : float 1 ⊗ 4096·0 ≡ 4096·0
unfolding of_int of_bits mul
scale_one = refl

-- luma's gain, the one of its block; and chroma's
luma_block : (l : Layer) (plane x y : ℕ) (r : ℤ) → eqb plane 0 ≡ true → BlockSummed l.luma l.pitch.0 1 x y 1 r → (texel l plane x y).gain ≡ gain_by 1 r
unfolding texel luma_texel row_total block_total turns
luma_block l plane x y r t done =
    let small : nat_abs (get_or l.luma (y * l.pitch.0 + x) (pos 0)) ≤ 32768 = rw (mul-one, mul-one, add-zero, add-zero) at (done.number 0 0 (omega arith) (omega arith)) in
    rw (t, done.is, scale_one, mul-one, mul-one, add-zero, add-zero, single _ small)

chroma_block : (l : Layer) (plane x y : ℕ) (r : ℤ) → eqb plane 0 ≡ false → BlockSummed l.luma l.pitch.0 l.ratio x y l.ratio r
    → (texel l plane x y).gain ≡ gain_by l.ratio r
unfolding texel chroma_texel gain_total scan scan_row row_total block_total
chroma_block l plane x y r t done = rw (t, done.is)

pub block_is : (l : Layer) (plane span x y : ℕ) (r : ℤ) → span ≡ plane_ratio l plane → BlockSummed l.luma l.pitch.0 span x y span r
    → (texel l plane x y).gain ≡ gain_by span r
block_is l plane span x y r e done = go (eqb plane 0) refl e
  where
    go : (t : Bool) → eqb plane 0 ≡ t → span ≡ cond t 1 l.ratio → (texel l plane x y).gain ≡ gain_by span r
    go true t e = rw e (luma_block l plane x y r t (rw e at done))
    go false t e = rw e (chroma_block l plane x y r t (rw e at done))

pub of_block : (p : Plan) → Planned p → (luma : List ℤ) (span x y : ℕ) (r : ℤ) → p.span ≡ span → BlockSummed luma p.shape.luma_pitch span x y span r → Summed p luma x y r
of_block p h luma span x y r same done =
    record {
      is = λ f g. rw same (block_is _ _ _ _ _ _ (sym same ∙ span_is p h) done);
      small = omega (arith, done.small, h.span, same);
    }
