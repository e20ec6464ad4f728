-- One row more.
use Rattle.still_pass.proofs.Pass.{rows_more}
use Rattle.still_same.proofs.same_rows.Goals as goal

pub loop-y-preserved : goal.loop-y-preserved
loop-y-preserved c = rows_more c.loop-y.invariant c.same_row.ensures
