-- A number of a slice of bytes: two bytes of it joined.
use Rattle.std.proofs.Common.{sym, ◌∙◌, ◌+◌, ◌*◌}
use mir.Syntax.{w16}
use Rattle.layer_lent.proofs.Numbers.{numbers_length, get_or-numbers, pair_is}
use Rattle.layer_lent.proofs.Signed.{back}
use Rattle.layer_lent.proofs.number.Goals as goal

pub returns : goal.returns
returns c =
    let a = c.args in
    let h = rw (numbers_length a.bytes.now) at c.requires in
    let byte = c.type_inv.bytes in
    back w16 c.from_le_bytes.result c.from_le_bytes.type_inv
    ∙ c.from_le_bytes.ensures
    ∙ pair_is _ _ (byte (a.k * 2)).fits (byte (a.k * 2 + 1)).fits
    ∙ sym (get_or-numbers a.bytes.now a.k h)
