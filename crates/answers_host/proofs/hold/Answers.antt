-- What is left of `answers_host::hold`: its answer is the rules', which is never 8.
use Rattle.answers.proofs.Never.{never_eight}
use Rattle.answers_host.proofs.Other.{told}
use Rattle.answers_host.proofs.hold.Goals as goal

pub returns : goal.returns
returns c = told c.safeteal_hold.ensures (never_eight.hold _)
