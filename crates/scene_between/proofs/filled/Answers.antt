-- `scene_between::filled` meets its contract. Assumes nothing.
use Rattle.rules.specs.Scene.{ring, filled}
use Rattle.std.proofs.iter.Serving.{serving}
use Rattle.layer_lent.specs.Lent.{lay}
use Rattle.scene_lift.specs.Means.{means}
use Rattle.scene_between.proofs.filled.Goals as goal

pub returns-in-Raw : goal.returns-in-Raw
unfolding filled means
returns-in-Raw g c =
    let s = c.args.seen.now in
    let p = s.sheet.plan in
    rw c.in-Raw.is
    (c.filled.ensures (ring (lay p.shape (g.L.Lent.held s.sheet.layer)) p.shape.plane (record { bytes = s.raw.now; pitch = s.pitch }) c.args.x c.args.y)
    (grind serving))
