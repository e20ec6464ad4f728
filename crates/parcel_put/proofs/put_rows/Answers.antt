-- What is left of `parcel_put::put_rows`: the invariant at its beginning, and one row more.
use native.Mathlib.Nat.{zero-mul}
use Rattle.parcel_put.proofs.Records.{none_put, row_put}
use Rattle.parcel_put.proofs.put_rows.Goals as goal

pub loop-y-init : goal.loop-y-init
loop-y-init c = rw (zero-mul c.args.run.width) (none_put _ _ _)

pub loop-y-preserved : goal.loop-y-preserved
loop-y-preserved c = row_put c.args.numbers.now c.args.run.from c.args.run.pitch _ _ c.loop-y.invariant c.put_row.ensures
