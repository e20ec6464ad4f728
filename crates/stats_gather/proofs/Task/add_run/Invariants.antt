-- The invariant of `stats_gather::Task::add_run`: the terms of the first k pixels are added. Assumes nothing.
use Rattle.std.proofs.Common.{◌≡◌}
use Rattle.stats_gather.specs.Sums.{run_added, lane_of}
use Rattle.stats_gather.proofs.Task.add_run.Given as goal

abbrev pub invariant-loop-k : goal.invariant-loop-k
invariant-loop-k g l =
    record {
      so_far : l.sums ≡ run_added l.pairs g.row.MANY (lane_of l.pb l.pa l.self l.run) l.place l.k l.initial.sums;
    }
