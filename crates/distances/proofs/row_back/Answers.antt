-- What is left to answer of `distances::row_back`'s goals.
use mathlib.Core.Path.{◌≡◌, sym}
use Prim.Native.Nat.{◌+◌, ◌-◌}
use native.Mathlib.Omega.{arith}
use lib.Seq.{get_or-set_same}
use Rattle.distances.proofs.Passes.{passed_more, back_turn}
use Rattle.distances.proofs.row_back.Goals as goal

pub loop-x-preserved : goal.loop-x-preserved
loop-x-preserved c =
    let l = c.loop-x in
    let e = l.invariant.passed.same in
    let f : l.x - 1 + 1 ≡ l.x = omega arith in record {
      right_is = omega arith;
      beside_is = sym (get_or-set_same l.cells (c.args.row + (l.x - 1)) c.lowest-beside.result 0 (omega arith));
      passed = passed_more l.invariant.passed
          (rw (e, f) at (back_turn c.args.width (l.x - 1) c.args.row c.args.down c.saturating_sub-left.result l.right l.beside l.cells c.lowest-beside.result
          (omega arith) c.saturating_sub-left.ensures (omega arith) c.lowest-beside.ensures (rw e c.requires) l.invariant.beside_is));
    }
