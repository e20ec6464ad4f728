-- The invariant of `stats_batch::Run::lanes`: the values below k are filled in.
use Rattle.std.proofs.Common.{ℕ, ◌<◌, get_or}
use Rattle.stats_batch.proofs.Run.lanes.Given as goal

abbrev pub invariant-loop-k : goal.invariant-loop-k
invariant-loop-k g l = (j : ℕ) (other : _) → j < l.k → goal.F-post g l.f j (get_or l.out j other)
