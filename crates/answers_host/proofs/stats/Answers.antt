-- What is left of `answers_host::stats`: its answer is the rules', which is never 8.
use Rattle.answers.proofs.Never.{never_eight}
use Rattle.answers_host.proofs.Other.{three}
use Rattle.answers_host.proofs.stats.Goals as goal

pub returns : goal.returns
returns c = three c.safeteal_stats.ensures (never_eight.stats _)
