-- What is left to answer of `lift_count::writes`'s goals.
use mir.Syntax.{w16}
use Rattle.laws.proofs.Signed.{back}
use Rattle.lift_count.proofs.Counted.{layered_is}
use Rattle.lift_count.proofs.writes.Goals as goal

pub distance-requires : goal.distance-requires
distance-requires g c =
    let s = c.args.sheet.sound in
    record { planned = s.planned; long = s.second_long; inside = c.requires }

pub returns : goal.returns
returns g c =
    let d = c.distance in
    let held = g.L.Lent.held c.args.sheet.layer in
    rw c.plain.ensures
    (layered_is c.args.sheet.plan.shape (held 0) (held 1) _ c.args.sheet.plan.shape.plane c.args.x c.args.y
    d.ensures (rw (back w16 d.result d.type_inv) at c.near-near.ensures) c.texel-model.ensures)
