-- What is left of `answers_host::distances`: its answer is the rules', which is never 8.
use Rattle.answers.proofs.Never.{never_eight}
use Rattle.answers_host.proofs.Other.{told}
use Rattle.answers_host.proofs.distances.Goals as goal

pub returns : goal.returns
returns c = told c.safeteal_distances.ensures (never_eight.distances _)
