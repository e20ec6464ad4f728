-- The invariant of `parcel_records::find`: the place among the records before what is left, and where that begins.
use Rattle.parcel_records.specs.Steps.{Finding}
use Rattle.parcel_records.proofs.find.Given as goal

abbrev pub invariant-loop-piece : goal.invariant-loop-piece
invariant-loop-piece l = Finding l.parcel l.kind l.place l.at l.piece-iterator.left.now
