-- The invariant of `parcel_put::put_row`: the numbers before x are put.
use Rattle.rules.specs.Parcel.{written}
use Rattle.table.specs.Put.{Put}
use Rattle.parcel_put.specs.Runs.{row_of}
use Rattle.parcel_put.proofs.put_row.Given as goal

abbrev pub invariant-loop-x : goal.invariant-loop-x
invariant-loop-x l = Put l.initial.output l.at (written (row_of l.numbers l.from l.x)) l.output
