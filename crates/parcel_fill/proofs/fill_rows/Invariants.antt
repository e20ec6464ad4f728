-- The invariant of `parcel_fill::fill_rows`: the rows before y are put.
use Rattle.table.specs.Put.{Put}
use Rattle.parcel_fill.specs.Fills.{mark_rows}
use Rattle.parcel_fill.proofs.fill_rows.Given as goal

abbrev pub invariant-loop-y : goal.invariant-loop-y
invariant-loop-y l = Put l.initial.output l.at (mark_rows l.payload l.marks l.y) l.output
