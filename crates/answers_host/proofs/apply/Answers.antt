-- What is left of `answers_host::apply`: its answer is the rules', which is never 8.
use Rattle.answers.proofs.Never.{never_eight}
use Rattle.answers_host.proofs.Other.{told}
use Rattle.answers_host.proofs.apply.Goals as goal

pub returns : goal.returns
returns c = told c.safeteal_apply.ensures (never_eight.apply _)
