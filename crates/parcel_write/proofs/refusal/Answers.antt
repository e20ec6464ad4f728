-- What is left of `parcel_write::refusal`: the rows of the layer, the sizes that they leave, and the last row.
use Rattle.std.proofs.Common.{[], ◌∷◌, refl, sym, ◌∙◌, length, eqb}
use Rattle.std.proofs.lemmas.Result.{err_from_is_err_and}
use Rattle.rules.specs.declared.Refusal.TheVariants.{Length}
use Rattle.rules.specs.Domain.{parcel_length}
use Rattle.rules.specs.Refusals.{◌unless◌, first_fitting, parcel_write_refusal}
use Rattle.layer_refuse.proofs.Accepted.{accepted}
use Rattle.laws.proofs.Answered.{last_row}
use Rattle.parcel_write.proofs.refusal.Goals as goal

pub returns-in_err-rows : goal.returns-in_err-rows
unfolding parcel_write_refusal
returns-in_err-rows g c =
    let a = c.args in
    let s = a.shape in
    let right = eqb (length a.parcel.now) (parcel_length (s.width, s.height) s.ratio) in
    let p = err_from_is_err_and c.from_residual.result c.from_residual.ensures.1 in
    rw (p.1, p.2) (sym (rw c.requires at (c.in_err-rows.ensures [] ((4 unless right) ∷ []) refl)))

pub exact-requires : goal.exact-requires
unfolding first_fitting
exact-requires g c =
    let a = accepted c.args.shape (g.L.Lent.held c.args.layer) [] [] (c.in_ok-rows.ensures [] [] refl) in
    let f = a.sound.planned.formed in
    record { wide = f.wide.1; tall = f.tall.1 }

pub returns : goal.returns
unfolding parcel_write_refusal
returns g c =
    let a = c.args in
    let s = a.shape in
    let right = eqb (length a.parcel.now) (parcel_length (s.width, s.height) s.ratio) in
    let rows = rw c.requires at (c.in_ok-rows.ensures [] ((4 unless right) ∷ []) refl) in
    last_row Length right c.ensure.result (rw c.exact.ensures at c.ensure.ensures) ∙ sym rows
