-- What is left to answer of `layer_numbers::block`'s goals. Assumes nothing.
use mathlib.Core.Path.{◌≡◌}
use native.Mathlib.Omega.{arith}
use Rattle.layer_numbers.proofs.Texels.{of_block}
use Rattle.layer_numbers.proofs.block.Goals as goal

pub returns : goal.returns
returns g c =
    let e : c.loop-dy.dy ≡ g.row.SPAN = omega arith in
    of_block c.args.plan c.requires.planned _ _ _ _ _ c.requires.same (rw e at c.loop-dy.invariant)
