-- What is left to answer of `distances::row_down`'s goals.
use mathlib.Core.Path.{sym}
use Prim.Native.Nat.{◌+◌}
use native.Mathlib.Omega.{arith}
use lib.Seq.{get_or-set_same}
use Rattle.distances.proofs.Passes.{passed_more, down_turn}
use Rattle.distances.proofs.row_down.Goals as goal

pub loop-x-preserved : goal.loop-x-preserved
loop-x-preserved c =
    let l = c.loop-x in record {
      left_is = omega arith;
      beside_is = sym (get_or-set_same l.cells (c.args.row + l.x) c.lowest-beside.result 0 (omega arith));
      passed = passed_more l.invariant.passed
          (down_turn c.args.width l.x c.args.row c.args.up l.left c.min-right.result l.beside l.cells c.lowest-beside.result
          (omega arith) (omega arith) c.min-right.ensures c.lowest-beside.ensures (rw l.invariant.passed.same c.requires) l.invariant.beside_is);
    }
