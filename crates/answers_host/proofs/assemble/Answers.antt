-- What is left of `answers_host::assemble`: its answer is the rules', which is never 8.
use Rattle.answers.proofs.Never.{never_eight}
use Rattle.answers_host.proofs.Other.{three}
use Rattle.answers_host.proofs.assemble.Goals as goal

pub returns : goal.returns
returns c = three c.safeteal_assemble.ensures (never_eight.assemble _)
