-- The chroma rows before y, and the luma pixels that they span, are stored, and nothing else has changed.
use Rattle.assemble_store.specs.Entries.{models_of, RowsStored}
use Rattle.assemble_store.proofs.store.Given as goal

abbrev pub invariant-loop-y : goal.invariant-loop-y
invariant-loop-y l =
    RowsStored l.fn.sizes (models_of l.models l.fn.sizes) l.cover 0 l.y l.initial.luma l.initial.chroma1 l.initial.chroma2 l.luma l.chroma1 l.chroma2
