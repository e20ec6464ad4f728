-- The pixels from `lo` on, below `at`, are stored, and nothing else has changed.
use Rattle.rules.specs.Assembly.{luma_entry, model_slice}
use Rattle.table.specs.Filled.{Paired}
use Rattle.assemble_store.proofs.luma_run.Given as goal

abbrev pub invariant-loop-at : goal.invariant-loop-at
invariant-loop-at l = Paired (luma_entry (model_slice l.models l.pixels) l.pixels) l.pixels l.lo l.at l.initial.luma l.luma
