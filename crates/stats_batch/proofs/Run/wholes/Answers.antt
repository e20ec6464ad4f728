-- `stats_batch::Run::wholes` meets its contract. Assumes nothing.
use Rattle.std.proofs.Common.{of_calls}
use Rattle.stats_batch.proofs.Run.wholes.Goals as goal

pub returns : goal.returns
returns c k h =
    let e = c.lanes.ensures k 0 h in
    search of_calls
