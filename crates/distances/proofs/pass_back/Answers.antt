-- What is left to answer of `distances::pass_back`'s goals.
use Prim.Native.Nat.{◌-◌, ◌/◌, ◌<◌}
use native.Mathlib.Omega.{arith}
use lib.ListN.{length}
use Rattle.distances.proofs.Passes.{passed_more, step_back, rows_back}
use Rattle.distances.proofs.pass_back.Goals as goal

pub row_back-requires : goal.row_back-requires
row_back-requires c =
    let l = c.loop-y in
    let h : l.y - 1 < length l.cells / c.args.width = rw l.invariant.same (omega arith) in
    rw (c.min-below.ensures, ← l.invariant.same) (rows_back c.args.width (length l.cells) (l.y - 1) c.requires h)

pub loop-y-preserved : goal.loop-y-preserved
loop-y-preserved c =
    let l = c.loop-y in
    passed_more l.invariant (rw (l.invariant.same, step_back c.args.width l.y (omega arith)) at c.row_back.ensures)
