-- `layer_point::point` meets its contract, by what its reader gives. Assumes nothing.
use mathlib.Core.Path.{refl}
use Rattle.layer_point.proofs.Points.{whole_is, mixed_is}
use Rattle.layer_point.proofs.point.Goals as goal

pub returns-then-across-down : goal.returns-then-across-down
returns-then-across-down g c t gives =
    rw (gives _ _ _ c.read.ensures) (whole_is t _ _ _ refl c.if-across-down.true)

pub returns : goal.returns
returns g c t gives =
    rw (c.mix_models.ensures, c.row-lower.ensures t gives, c.row-upper.ensures t gives) (mixed_is t _ _ _ refl c.if-across-down.false)
