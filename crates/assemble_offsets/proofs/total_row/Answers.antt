-- `assemble_offsets::total_row` meets its contract. Assumes nothing.
use mathlib.Core.Path.{refl}
use Prim.Native.Nat.{◌≤◌}
use native.Mathlib.Omega.{arith}
use lib.IntN.{nat_abs}
use mir.Syntax.{w32}
use mir.Val.{to_z, of_z}
use Rattle.rules.specs.Forms.{turns}
use Rattle.assemble_offsets.specs.Sizes.{row_total}
use Rattle.assemble_offsets.proofs.Signed.{row_fits, row_more}
use Rattle.laws.proofs.Signed.{back}
use Rattle.assemble_offsets.proofs.total_row.Goals as goal

pub loop-dx-init : goal.loop-dx-init
unfolding turns row_total
loop-dx-init c = refl

pub overflow_add-sum : goal.overflow_add-sum
overflow_add-sum c =
    let few : nat_abs (to_z w32 (of_z w32 c.args.total)) ≤ 524288 = rw (back w32 c.args.total c.ranges.total.sfits) c.requires.few in
    row_fits _ _ _ _ _ _ c.loop-dx.sum-bits _ c.loop-dx.invariant c.term-sum.ensures c.term-sum.type_inv few (omega arith)

pub loop-dx-preserved : goal.loop-dx-preserved
loop-dx-preserved c =
    let few : nat_abs (to_z w32 (of_z w32 c.args.total)) ≤ 524288 = rw (back w32 c.args.total c.ranges.total.sfits) c.requires.few in
    row_more _ _ _ _ _ _ c.loop-dx.sum-bits _ c.loop-dx.invariant c.term-sum.ensures c.term-sum.type_inv few (omega arith)
