-- What is left to answer of `assemble_store::luma_run`'s goals.
use native.Mathlib.Omega.{arith}
use Rattle.table.proofs.Laws.{paired_none, paired_more}
use Rattle.assemble_store.proofs.luma_run.Goals as goal

pub loop-at-init : goal.loop-at-init
loop-at-init c = paired_none _ _ _ _

pub loop-at-preserved : goal.loop-at-preserved
loop-at-preserved c = paired_more c.loop-at.invariant (omega arith) c.put_luma.ensures
