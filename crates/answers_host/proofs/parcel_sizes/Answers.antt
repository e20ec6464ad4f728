-- What is left of `answers_host::parcel_sizes`: its answer is the rules', which is never 8.
use Rattle.std.proofs.Common.{refl}
use Rattle.answers.proofs.Never.{never_eight}
use Rattle.answers_host.proofs.Other.{sizes}
use Rattle.answers_host.proofs.parcel_sizes.Goals as goal

pub returns : goal.returns
returns c = sizes _ _ _ c.safeteal_parcel_sizes.ensures refl (never_eight.parcel_sizes _)
