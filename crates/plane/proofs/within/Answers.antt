-- The library's order of floats is theirs.
use Rattle.plane.proofs.Laws.{at_most}
use Rattle.plane.proofs.within.Goals as goal

pub returns : goal.returns
returns c = rw (c.contains.ensures.value, c.new.ensures.start, c.new.ensures.end, c.new.ensures.exhausted, at_most c.args.lo c.args.x, at_most c.args.x c.args.hi)
