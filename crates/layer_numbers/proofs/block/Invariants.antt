-- `layer_numbers::block` meets its contract. The invariant: the first dy rows are added. Assumes nothing.
use Rattle.layer_numbers.specs.Stored.{BlockSummed}
use Rattle.layer_numbers.proofs.block.Given as goal

abbrev pub invariant-loop-dy : goal.invariant-loop-dy
invariant-loop-dy g l = BlockSummed (g.L.Lent.held l.layer 0) l.plan.shape.luma_pitch g.row.SPAN l.x l.y l.dy l.sum
