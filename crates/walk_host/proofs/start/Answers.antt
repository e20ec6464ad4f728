-- What is left of `walk_host::start`: the walk that begins.
use Rattle.walk_host.proofs.Goes.{starts}
use Rattle.walk_host.proofs.start.Goals as goal

pub returns : goal.returns
returns c = starts _ _ _ _ c.safeteal_walk_start.ensures
