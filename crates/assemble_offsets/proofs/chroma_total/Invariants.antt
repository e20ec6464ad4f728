-- The invariant of `assemble_offsets::chroma_total`: the sum is the total of the block's first dy rows.
use mathlib.Core.Path.{◌≡◌}
use Rattle.assemble_offsets.specs.Sizes.{block_total}
use Rattle.assemble_offsets.proofs.chroma_total.Given as goal

abbrev pub invariant-loop-dy : goal.invariant-loop-dy
invariant-loop-dy l =
    l.sum ≡ block_total l.models l.plane l.share l.sizes.width l.ratio l.x l.y l.dy
