-- `layer_numbers::added` meets its contract. Assumes nothing.
use mathlib.Core.Path.{◌≡◌, ap, ◌∙◌}
use Prim.Native.Nat.{◌^◌, ◌<◌}
use native.Mathlib.Omega.{arith}
use lib.IntN.{◌+ℤ◌}
use lib.Signed.{mag}
use mir.Syntax.{w16, w32}
use Rattle.rules.specs.declared.Gain.{Gain}
use Rattle.layer_lent.proofs.Signed.{back}
use Rattle.layer_numbers.proofs.Sums.{fits_sum, added_is}
use Rattle.layer_numbers.proofs.added.Goals as goal

pub returns : goal.returns
returns g c =
    let e = c.gain.result.0 in
    let small : mag e < 2 ^ 15 = omega arith in
    let is : c.from.result ≡ e = c.from.ensures ∙ back w16 e small in
    let t = c.args.total in
    rw (back w32 t c.ranges.total.sfits, back w32 c.from.result c.from.type_inv, is, back w32 (t +ℤ e) (fits_sum t e c.requires.small small).sfits)
    (added_is t e c.requires.small small (ap (λ (g : Gain). g.0) c.gain.ensures))
