-- The invariant of `parcel_records::count`: so many records lie before what is left.
use Rattle.parcel_records.specs.Steps.{Counting}
use Rattle.parcel_records.proofs.count.Given as goal

abbrev pub invariant-loop-piece : goal.invariant-loop-piece
invariant-loop-piece l = Counting l.parcel l.piece-iterator.left.now l.n
