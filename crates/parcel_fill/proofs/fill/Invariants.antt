-- The invariant of `parcel_fill::fill`: the numbers before k are put.
use Rattle.rules.specs.Forms.{tabulate}
use Rattle.rules.specs.Host.{entry}
use Rattle.table.specs.Put.{Put}
use Rattle.parcel_fill.proofs.fill.Given as goal

abbrev pub invariant-loop-k : goal.invariant-loop-k
invariant-loop-k l = Put l.initial.output l.at (tabulate l.k (entry l.payload)) l.output
