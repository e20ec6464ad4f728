-- What is left of `answers_host::empty`: its answer is the rules', which is never 8.
use Rattle.answers_host.proofs.Other.{reply}
use Rattle.answers_host.proofs.empty.Goals as goal

pub returns : goal.returns
returns c = reply _ _ c.safeteal_empty.ensures
