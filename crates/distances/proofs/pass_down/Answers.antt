-- What is left to answer of `distances::pass_down`'s goals.
use Prim.Native.Nat.{◌/◌, ◌<◌}
use native.Mathlib.Omega.{arith}
use lib.ListN.{length}
use Rattle.distances.proofs.Passes.{rows_down}
use Rattle.distances.proofs.pass_down.Goals as goal

pub row_down-requires : goal.row_down-requires
row_down-requires c =
    let l = c.loop-y in
    let h : l.y < length l.cells / c.args.width = rw l.invariant.same (omega arith) in
    rw c.saturating_sub.ensures (rows_down c.args.width (length l.cells) l.y c.requires h)
