-- What is left of `walk_host::layer`: the walk goes on by the layer, which is the one of the clip held together.
use Rattle.walk_host.proofs.Goes.{takes}
use Rattle.walk_host.proofs.layer.Goals as goal

pub returns : goal.returns
returns c = takes _ _ _ _ _ _ _ _ c.safeteal_walk_layer.ensures
