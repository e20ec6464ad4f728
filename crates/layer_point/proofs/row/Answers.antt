-- `layer_point::row` meets its contract, by what its reader gives. Assumes nothing.
use Rattle.layer_point.specs.Points.{row_of}
use Rattle.layer_point.proofs.row.Goals as goal

pub returns : goal.returns
unfolding row_of
returns g c t gives = rw (c.mix_models.ensures, gives _ _ _ c.read-left.ensures, gives _ _ _ c.read-right.ensures)
