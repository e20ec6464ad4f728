-- What is left of `answers_host::parcel_write`: its answer is the rules', which is never 8.
use Rattle.answers.proofs.Never.{never_eight}
use Rattle.answers_host.proofs.Other.{told}
use Rattle.answers_host.proofs.parcel_write.Goals as goal

pub returns : goal.returns
returns c = told c.safeteal_parcel_write.ensures (never_eight.parcel_write _)
