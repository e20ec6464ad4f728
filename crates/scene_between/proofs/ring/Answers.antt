-- `scene_between::ring` meets its contract, by its callees'. Assumes nothing.
use mathlib.Core.Path.{ap}
use Rattle.rules.specs.Scene.{ring as ring_of}
use Rattle.layer_lent.specs.declared.Plan.{Plan}
use Rattle.scene_between.specs.Rings.{ring_up_to}
use Rattle.scene_between.proofs.ring.Goals as goal

pub returns : goal.returns
unfolding ring_of ring_up_to
returns g c =
    rw (c.ring_around.ensures, c.of_size-2.ensures, c.of_size.ensures, ap (λ (q : Plan). q.span) c.args.seen.now.sheet.sound.planned.is)
