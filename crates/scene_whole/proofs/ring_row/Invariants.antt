-- The invariant of `scene_whole::ring_row`: the first k points of the row are gathered.
use mathlib.Core.Path.{◌≡◌}
use Rattle.layer_lent.specs.Lent.{lay}
use Rattle.scene_whole.specs.Rings.{row_ring}
use Rattle.scene_whole.proofs.ring_row.Given as goal

abbrev pub invariant-loop-k : goal.invariant-loop-k
invariant-loop-k g l =
    let p = l.seen.sheet.plan in
    l.grown ≡ row_ring (lay p.shape (g.L.Lent.held l.seen.sheet.layer)) p.shape.plane (record { bytes = l.seen.raw.now; pitch = l.seen.pitch })
    p.across l.band.x l.band.row l.band.radius l.band.down l.k l.initial.grown
