-- `stats_batch::Run::moved` meets its contract. Assumes nothing.
use Rattle.std.proofs.Common.{of_calls, arith, ◌<◌}
use lib.Ieee.{nan}
use lib.ListN.{get_or}
use Rattle.rules.specs.Float.{cut}
use Rattle.stats_terms.specs.Terms.{moved_of}
use Rattle.stats_batch.proofs.Run.moved.Goals as goal

pub sampled-requires-clause-across : goal.sampled-requires-clause-across
sampled-requires-clause-across c k h =
    let e = c.lanes-u.ensures k nan h in
    search of_calls

pub sampled-requires-clause-down : goal.sampled-requires-clause-down
sampled-requires-clause-down c k h =
    let e = c.lanes-v.ensures k nan h in
    search of_calls

pub wholes-requires : goal.wholes-requires
wholes-requires c k h =
    let e = c.lanes-u.ensures k nan h in
    let s : cut (get_or c.lanes-u.result k nan) < c.args.raster.width = search of_calls in
    omega arith

pub wholes-requires-2 : goal.wholes-requires-2
wholes-requires-2 c k h =
    let e = c.lanes-v.ensures k nan h in
    let s : cut (get_or c.lanes-v.result k nan) < c.args.raster.height = search of_calls in
    omega arith

pub returns : goal.returns
unfolding moved_of
returns c k h =
    let u = c.lanes-u.ensures k nan h in
    let v = c.lanes-v.ensures k nan h in
    let s = c.sampled.ensures k h in
    search of_calls
