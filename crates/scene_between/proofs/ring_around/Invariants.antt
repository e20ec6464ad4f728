-- `scene_between::ring_around` meets its contract. The invariant: the first points are gathered. Assumes nothing.
use mathlib.Core.Path.{◌≡◌}
use Rattle.layer_lent.specs.Lent.{lay}
use Rattle.scene_between.specs.Rings.{ring_up_to}
use Rattle.scene_between.proofs.ring_around.Given as goal

abbrev pub invariant-loop-side : goal.invariant-loop-side
invariant-loop-side g l =
    let p = l.seen.sheet.plan in
    l.grown ≡ ring_up_to (lay p.shape (g.L.Lent.held l.seen.sheet.layer)) p.shape.plane (record { bytes = l.seen.raw.now; pitch = l.seen.pitch })
    l.circle.x l.circle.y l.circle.radius l.side
