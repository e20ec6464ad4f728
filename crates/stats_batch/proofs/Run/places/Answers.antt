-- `stats_batch::Run::places` meets its contract. Assumes nothing.
use Rattle.std.proofs.Common.{of_calls}
use lib.Ieee.{nan}
use Rattle.stats_batch.proofs.Run.places.Goals as goal

pub returns-clause-are : goal.returns-clause-are
returns-clause-are c k h =
    let e = c.lanes.ensures k nan h in
    search of_calls

pub returns-clause-inside : goal.returns-clause-inside
returns-clause-inside c k h =
    let e = c.lanes.ensures k nan h in
    search of_calls
