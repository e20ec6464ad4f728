-- What is left of `answers_host::unpeel`: its answer is the rules', which is never 8.
use Rattle.answers.proofs.Never.{never_eight}
use Rattle.answers_host.proofs.Other.{told}
use Rattle.answers_host.proofs.unpeel.Goals as goal

pub returns : goal.returns
returns g c = told c.unpeel.ensures (never_eight.unpeel _)
