-- What is left of `parcel_read::unpacked`: what is known of a parcel that is not refused.
use Rattle.parcel_read.proofs.Opened.{opened}
use Rattle.parcel_read.proofs.unpacked.Goals as goal

pub invariant_of-result : goal.invariant_of-result
invariant_of-result c = let s = c.in_ok-contents.ensures in record { opened = opened c.args.bytes.now _ s.seen s.number }
