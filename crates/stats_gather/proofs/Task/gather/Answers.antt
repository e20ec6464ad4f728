-- `stats_gather::Task::gather` meets its contract. Assumes nothing.
use Rattle.std.proofs.Common.{◌≡◌, ◌∙◌, arith}
use Rattle.stats_gather.proofs.Table.{table}
use Rattle.stats_gather.proofs.Task.gather.Goals as goal

pub returns : goal.returns
returns g c =
    let t = c.args.self.now in
    let all : c.loop-y.y ≡ t.height = omega arith in
    (rw all at c.loop-y.invariant) ∙ table t.pairs g.row.MANY _ c.args.sums.now c.requires
