-- What is left to answer of `assemble_store::Models::chroma_run`'s goals.
use Prim.Native.Nat.{◌*◌}
use native.Mathlib.Nat.{add-zero, add_assoc}
use native.Mathlib.Omega.{arith}
use Rattle.table.proofs.Laws.{paired_none, paired_more}
use Rattle.assemble_store.proofs.Chroma.{point_in}
use Rattle.assemble_store.proofs.Models.chroma_run.Goals as goal

pub loop-x-init : goal.loop-x-init
loop-x-init c = rw add-zero (paired_none _ _ _ _)

pub loop-x-preserved : goal.loop-x-preserved
loop-x-preserved c =
    let a = c.args in
    let g = a.self.sizes in
    let inside = point_in g c.loop-x.x a.y c.loop-x-test.true c.requires.above in
    rw (← add_assoc (a.y * g.chroma_width) c.loop-x.x 1) (paired_more c.loop-x.invariant (omega arith) c.put_chroma.ensures)
