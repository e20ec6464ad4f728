-- What is left of `parcel_records::count`: all records are counted.
use Rattle.parcel_records.proofs.Walk.{count_end}
use Rattle.parcel_records.proofs.count.Goals as goal

pub returns : goal.returns
returns c = count_end _ _ _ c.loop-piece.invariant c.in-None.ensures.steps
