-- The invariant of `parcel_put::put_rows`: the rows before y are put.
use Rattle.rules.specs.Parcel.{written}
use Rattle.table.specs.Put.{Put}
use Rattle.parcel_put.specs.Runs.{first_of}
use Rattle.parcel_put.proofs.put_rows.Given as goal

abbrev pub invariant-loop-y : goal.invariant-loop-y
invariant-loop-y l = Put l.initial.output l.at (written (first_of l.numbers l.from l.pitch l.width l.y)) l.output
