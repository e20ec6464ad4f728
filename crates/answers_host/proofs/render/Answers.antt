-- What is left of `answers_host::render`: its answer is the rules', which is never 8.
use Rattle.answers.proofs.Never.{never_eight}
use Rattle.answers_host.proofs.Other.{told}
use Rattle.answers_host.proofs.render.Goals as goal

pub returns : goal.returns
returns c = told c.render.ensures (never_eight.render _)
