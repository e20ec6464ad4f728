-- What is left of `parcel_fill::fill_rows`: the invariant at its beginning, and one row more.
use native.Mathlib.Nat.{zero-mul}
use Rattle.table.proofs.Put.{table_none}
use Rattle.parcel_fill.specs.Fills.{mark_at}
use Rattle.parcel_fill.proofs.Rows.{rows_put}
use Rattle.parcel_fill.proofs.fill_rows.Goals as goal

pub loop-y-init : goal.loop-y-init
loop-y-init c = let a = c.args in rw (zero-mul a.marks.across) (table_none (mark_at a.payload.now a.marks) a.output.now a.at)

pub loop-y-preserved : goal.loop-y-preserved
loop-y-preserved c = rows_put c.args.payload.now c.args.marks c.loop-y.y c.loop-y.invariant c.fill_row.ensures
