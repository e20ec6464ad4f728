-- `sample::held` meets its contract. Assumes nothing.
use Rattle.sample.proofs.Cut as laws
use Rattle.sample.proofs.held.Goals as goal

pub returns : goal.returns
returns c = laws.held c.args.x c.clamp.result c.args.size c.requires.some c.requires.few (rw (← c.of_size.ensures) c.clamp.ensures)
