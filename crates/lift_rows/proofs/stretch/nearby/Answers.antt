-- What is left to answer of `nearby`'s goals.
use mir.Syntax.{w16}
use Rattle.layer_lent.proofs.Signed.{back}
use Rattle.lift_rows.proofs.stretch.nearby.Goals as goal

pub number-requires : goal.number-requires
number-requires g c =
    let s = c.args.sheet.sound in
    record { planned = s.planned; long = s.second_long; inside = c.requires }

pub returns : goal.returns
returns g c = rw (back w16 c.number.result c.number.type_inv, c.number.ensures) at c.near.ensures
