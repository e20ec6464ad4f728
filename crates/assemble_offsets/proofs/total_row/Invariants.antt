-- The invariant of `assemble_offsets::total_row`: the sum is the total with the row's first dx terms added.
use mathlib.Core.Path.{◌≡◌}
use Rattle.assemble_offsets.specs.Sizes.{row_total}
use Rattle.assemble_offsets.proofs.total_row.Given as goal

abbrev pub invariant-loop-dx : goal.invariant-loop-dx
invariant-loop-dx l =
    l.sum ≡ row_total l.models l.plane l.share l.place l.dx l.total
