-- The row's pixels before x are stored, and nothing else has changed.
use Rattle.std.proofs.Common.{◌+◌, ◌*◌}
use Rattle.assemble_store.specs.Entries.{models_of, PointsStored}
use Rattle.assemble_store.proofs.Models.chroma_run.Given as goal

abbrev pub invariant-loop-x : goal.invariant-loop-x
invariant-loop-x l =
    let g = l.self.sizes in
    PointsStored g (models_of l.self.floats.now g) l.self.cover.now l.plane (l.y * g.chroma_width) (l.y * g.chroma_width + l.x) l.initial.chroma l.chroma
