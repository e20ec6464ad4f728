-- The invariant of `scene_whole::ring`: the first rows of the ring are gathered.
use mathlib.Core.Path.{◌≡◌}
use Rattle.layer_lent.specs.Lent.{lay}
use Rattle.scene_whole.specs.Rings.{whole_ring}
use Rattle.scene_whole.proofs.ring.Given as goal

abbrev pub invariant-loop-down : goal.invariant-loop-down
invariant-loop-down g l =
    let p = l.seen.sheet.plan in
    l.grown ≡ whole_ring (lay p.shape (g.L.Lent.held l.seen.sheet.layer)) p.shape.plane (record { bytes = l.seen.raw.now; pitch = l.seen.pitch })
    (p.across, p.down) l.x l.y l.radius l.down
