-- `layer_numbers::gain_row` meets its contract. The invariant: the first dx gains are added. Assumes nothing.
use Rattle.layer_numbers.specs.Stored.{RowSummed}
use Rattle.layer_numbers.proofs.gain_row.Given as goal

abbrev pub invariant-loop-dx : goal.invariant-loop-dx
invariant-loop-dx g l = RowSummed (g.L.Lent.held l.layer 0) l.row l.pitch l.x g.row.SPAN l.dx l.total l.sum
