-- The invariant of `parcel_host::are_short`: the numbers before this one have 16 bits.
use Rattle.parcel_host.proofs.Short.{ShortTo}
use Rattle.parcel_host.proofs.are_short.Given as goal

abbrev pub invariant-loop-number : goal.invariant-loop-number
invariant-loop-number l = ShortTo l.numbers l.number-index
