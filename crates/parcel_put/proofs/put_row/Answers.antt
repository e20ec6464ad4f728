-- What is left of `parcel_put::put_row`: the invariant at its beginning, and one number more.
use Rattle.std.proofs.Common.{◌≡◌, ℕ, ℤ, pos, ◌+◌, get_or, ap, rules, to_z, of_z, w16, ◌∙◌}
use Rattle.rules.specs.Parcel.{in_bytes}
use Rattle.table.proofs.Put.{put_as}
use Rattle.laws.proofs.Bytes.{bits_is}
use Rattle.parcel_put.proofs.Records.{none_put, number_put}
use Rattle.parcel_put.proofs.put_row.Goals as goal

pub loop-x-init : goal.loop-x-init
loop-x-init c = none_put _ _ _

pub loop-x-preserved : goal.loop-x-preserved
loop-x-preserved c =
    let at : ℕ → ℤ = λ k. get_or c.args.numbers.now (c.args.from + k) (pos 0) in
    let same : to_z w16 (of_z w16 (at c.loop-x.x)) ≡ at c.loop-x.x = search rules in
    number_put c.loop-x.x at c.loop-x.invariant (put_as c.put.ensures (ap (in_bytes 2) (c.from.ensures ∙ c.cast_unsigned-bits.ensures ∙ ap (of_z w16) same ∙ bits_is (at c.loop-x.x))))
