-- One row more.
use Rattle.still_pass.proofs.Pass.{rows_more}
use Rattle.still_rows.proofs.Job.rows.Goals as goal

pub loop-y-preserved : goal.loop-y-preserved
loop-y-preserved g c = rows_more c.loop-y.invariant c.row.ensures
