-- What is left of `answers_host::peel`: its answer is the rules', which is never 8.
use Rattle.answers.proofs.Never.{never_eight}
use Rattle.answers_host.proofs.Other.{told}
use Rattle.answers_host.proofs.peel.Goals as goal

pub returns : goal.returns
returns g c = told c.peel.ensures (never_eight.peel _)
