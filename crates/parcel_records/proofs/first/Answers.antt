-- What is left of `parcel_records::first`: a whole record.
use Rattle.std.proofs.Common.{rules}
use Rattle.parcel_records.proofs.Walk.{one_begins}
use Rattle.parcel_records.proofs.first.Goals as goal

pub returns : goal.returns
returns c = one_begins c.args.bytes.now c.in_ok-head.head.now c.in_ok-head.rest.now (search rules) _ _ c.two-kind.ensures.value (search rules)
