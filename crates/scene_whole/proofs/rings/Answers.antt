-- `scene_whole::rings` meets its contract. Assumes nothing.
use mathlib.Core.Path.{sym, ◌∙◌}
use Prim.Native.Nat.{ℕ, ◌*◌, ◌/◌}
use Rattle.std.proofs.iter.Serving.{serving}
use Rattle.layer_lent.specs.Lent.{lay}
use Rattle.scene_whole.specs.Rings.{whole_ring}
use Rattle.scene_whole.proofs.Around.{planned_filled}
use Rattle.scene_whole.proofs.rings.Goals as goal

pub returns : goal.returns
returns g c =
    let s = c.args.seen in
    let p = s.sheet.plan in
    let rings = λ (times : ℕ). whole_ring (lay p.shape (g.L.Lent.held s.sheet.layer)) p.shape.plane (record { bytes = s.raw.now; pitch = s.pitch })
    (p.across, p.down) c.args.x c.args.y (4 / p.span * times) 3 in
    c.filled.ensures rings (grind serving)
    ∙ sym (planned_filled p _ _ _ _ _ _ s.sheet.sound.planned c.requires c.small.ensures _)
