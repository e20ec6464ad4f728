-- `stats_batch::Run::sampled` meets its contract. Assumes nothing.
use Rattle.std.proofs.Common.{of_calls}
use lib.Ieee.{nan}
use Rattle.rules.specs.Reading.{sample}
use Rattle.sample.specs.Points.{sampled_at, sampled_row}
use Rattle.stats_batch.proofs.Run.sampled.Goals as goal

pub returns : goal.returns
unfolding sample sampled_at sampled_row
returns c k h =
    let e = c.lanes.ensures k nan h in
    search of_calls
