-- What is left of `parcel_fill::fill`: the invariant at its beginning, one number more, and the end.
use Rattle.std.proofs.Common.{◌+◌, ◌*◌, get_or, set, ap, ◌∙◌, arith, w16}
use native.Mathlib.Nat.{le_antisymm}
use Rattle.rules.specs.Host.{numbers}
use Rattle.laws.proofs.Signed.{back}
use Rattle.table.proofs.Put.{table_none, table_more}
use Rattle.parcel_fill.proofs.Rows.{pair_is}
use Rattle.parcel_fill.proofs.fill.Goals as goal

pub loop-k-init : goal.loop-k-init
loop-k-init c = table_none _ _ _

pub loop-k-preserved : goal.loop-k-preserved
loop-k-preserved c =
    let long = c.loop-k.invariant.long in
    let byte = c.type_inv.payload in
    let read = pair_is (get_or c.args.payload.now (c.loop-k.k * 2) 0) (get_or c.args.payload.now (c.loop-k.k * 2 + 1) 0) (byte (c.loop-k.k * 2)).fits (byte (c.loop-k.k * 2 + 1)).fits in
    table_more _ c.loop-k.k c.loop-k.invariant (omega arith) (ap (set c.loop-k.output (c.args.at + c.loop-k.k)) (back w16 c.from_le_bytes.result c.from_le_bytes.type_inv ∙ c.from_le_bytes.ensures ∙ read))

pub returns : goal.returns
unfolding numbers
returns c = rw (le_antisymm c.loop-k.auto.k-end c.loop-k-test.false) at c.loop-k.invariant
