-- What is left of `walk_host::pair`: the walk goes on by the pair.
use Rattle.host.proofs.Back.{read_back, handed_by_motion}
use Rattle.walk_host.proofs.Goes.{hands}
use Rattle.walk_host.proofs.pair.Goals as goal

pub returns : goal.returns
returns c =
    let f = c.ranges in
    hands _ _ _ _ _ _ (handed_by_motion _ _ (read_back _ _ _ _ _ _ f.block_width f.block_height f.origin_x f.origin_y f.pel) c.safeteal_walk_pair.ensures)
