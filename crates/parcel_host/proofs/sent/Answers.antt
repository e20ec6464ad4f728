-- What is left of `parcel_host::sent`: the round trip, of what the exported calls ensure.
use Rattle.parcel_host.proofs.Trip.{sent_told}
use Rattle.parcel_host.proofs.sent.Goals as goal

pub returns : goal.returns
returns c =
    sent_told _ _ _ _ _ _ _ _ _ _
    (record { luma = c.are_short.ensures; first = c.are_short-2.ensures; second = c.are_short-3.ensures })
    c.safeteal_parcel_write-written.ensures c.safeteal_parcel_sizes-sizes.ensures c.safeteal_parcel_read-read.ensures
