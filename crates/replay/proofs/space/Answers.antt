-- `replay::space`: how long the array is, by a law and not by counting.
use Rattle.std.proofs.Common.{sym, ℕ}
use Rattle.std.proofs.lemmas.List.{length-replicate}
use Rattle.replay.proofs.space.Goals as goal

pub returns : goal.returns
returns c = sym (length-replicate {A = ℕ} 524288 0)
