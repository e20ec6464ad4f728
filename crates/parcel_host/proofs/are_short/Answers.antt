-- What is left of `parcel_host::are_short`: the end.
use Rattle.std.proofs.Common.{◌≡◌, length, arith}
use Rattle.parcel_host.proofs.Short.{all_short}
use Rattle.parcel_host.proofs.are_short.Goals as goal

pub returns : goal.returns
returns c =
    let e : c.loop-number.number-index ≡ length c.args.numbers.now = omega arith in
    all_short _ (rw e at c.loop-number.invariant)
