-- `scene_between::sign` meets its contract. Assumes nothing.
use mathlib.Core.Path.{◌≡◌}
use native.Mathlib.Omega.{arith}
use lib.Ieee.{of_bits, of_int, neg}
use Rattle.scene_between.proofs.sign.Goals as goal

pub returns-in-0 : goal.returns-in-0
unfolding of_bits of_int neg
returns-in-0 c = rw c.in-0.is

pub returns-in-1 : goal.returns-in-1
unfolding of_bits of_int
returns-in-1 c = rw c.in-1.is

pub returns-in_default : goal.returns-in_default
unfolding of_bits of_int
returns-in_default c = let e : c.args.k ≡ 2 = omega arith in rw e
