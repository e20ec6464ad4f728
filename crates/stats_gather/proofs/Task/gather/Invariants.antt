-- The invariant of `stats_gather::Task::gather`: the first y rows are added. Assumes nothing.
use Rattle.std.proofs.Common.{◌≡◌}
use Rattle.stats_gather.specs.Sums.{pass_of, rows_added}
use Rattle.stats_gather.proofs.Task.gather.Given as goal

abbrev pub invariant-loop-y : goal.invariant-loop-y
invariant-loop-y g l = l.sums ≡ rows_added l.self.pairs g.row.MANY (pass_of l.self) l.y l.initial.sums
