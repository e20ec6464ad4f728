-- `assemble_offsets::chroma_total` meets its contract. Assumes nothing.
use mathlib.Core.Path.{refl, ◌∙◌}
use native.Mathlib.Nat.{le_antisymm, mul-le-mul, add-zero}
use native.Mathlib.Numerals.{add-one}
use native.Mathlib.Omega.{arith}
use mir.Syntax.{w32}
use mir.Val.{to_z}
use Rattle.rules.specs.Forms.{turns}
use Rattle.assemble_offsets.specs.Sizes.{block_total}
use Rattle.laws.proofs.Signed.{back}
use Rattle.assemble_offsets.proofs.Places.{luma_row, luma_column}
use Rattle.assemble_offsets.proofs.Totals.{total_is, row_asks}
use Rattle.assemble_offsets.proofs.chroma_total.Goals as goal

pub overflow_mul-ratio : goal.overflow_mul-ratio
overflow_mul-ratio c = let r = c.requires.formed.ratio.1 in omega (arith, mul-le-mul r r)

pub of_size-share-requires : goal.of_size-share-requires
of_size-share-requires c = let r = c.requires.formed.ratio.1 in omega (arith, mul-le-mul r r)

pub loop-dy-init : goal.loop-dy-init
unfolding turns block_total
loop-dy-init c = refl

pub place-place-requires : goal.place-place-requires
place-place-requires c =
    let a = c.args in
    let f = c.requires.formed in
    let b = c.requires.block in
    let r = luma_row a.sizes f a.x a.y 0 c.loop-dy.dy b.left b.above f.ratio.0 c.loop-dy-test.true in
    let k = luma_column a.sizes f a.x a.y 0 c.loop-dy.dy b.left b.above f.ratio.0 c.loop-dy-test.true in record {
      row = omega (arith, c.place-in-loop-dy.ensures, c.place.ensures);
      pitch = omega (arith, c.place-in-loop-dy.ensures, c.place.ensures);
      col = omega (arith, c.place-in-loop-dy.ensures, c.place.ensures);
    }

pub total_row-sum-requires : goal.total_row-sum-requires
total_row-sum-requires c =
    let a = c.args in
    let asks = row_asks a.sizes c.requires.formed a.models.now c.requires.long a.plane a.x a.y c.loop-dy.dy c.requires.block c.loop-dy-test.true
    (to_z w32 c.loop-dy.sum-bits) (rw (← c.of_size-share.ensures) c.loop-dy.invariant) in
    rw (c.place-place.ensures, c.place-in-loop-dy.ensures, c.place.ensures, add-zero) asks

pub loop-dy-preserved : goal.loop-dy-preserved
unfolding turns block_total
loop-dy-preserved c =
    let place = rw (c.place-in-loop-dy.ensures, c.place.ensures, add-zero) at c.place-place.ensures in
    back w32 c.total_row-sum.result c.total_row-sum.type_inv ∙ c.total_row-sum.ensures ∙ rw (place, c.loop-dy.invariant, add-one)

pub returns : goal.returns
returns c =
    let a = c.args in
    rw (le_antisymm c.loop-dy.auto.dy-end c.loop-dy-test.false, c.of_size-share.ensures) at c.loop-dy.invariant ∙ total_is a.sizes c.requires.formed a.models.now a.plane a.x a.y c.requires.block
