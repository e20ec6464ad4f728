-- `float::cut_low` meets its contract. Assumes nothing.
use lib.Ieee.{of_bits}
use Rattle.float.proofs.Floor.{floored, number, taken}
use Rattle.float.proofs.cut_low.Goals as goal

pub float_to_int-n : goal.float_to_int-n
unfolding of_bits
float_to_int-n c = (number _ _ (floored c.args.x c.requires.unsigned c.requires.low)).0

pub overflow_sub-result : goal.overflow_sub-result
unfolding of_bits
overflow_sub-result c = rw c.from.ensures (taken _ _ (floored c.args.x c.requires.unsigned c.requires.low)).0

pub returns : goal.returns
unfolding of_bits
returns c = rw c.from.ensures (taken _ _ (floored c.args.x c.requires.unsigned c.requires.low)).1
