-- What is left to answer of `fit_near::Pixel::is_set`'s goals.
use native.Mathlib.Omega.{arith}
use mathlib.Core.Path.{sym, ◌∙◌}
use Rattle.fit_near.proofs.Near.{pixel_in, model_is}
use Rattle.fit_near.proofs.Pixel.is_set.Goals as goal

pub model_at-requires : goal.model_at-requires
model_at-requires c =
    let r = c.args.self.rough in
    let row = c.beside-row.ensures in
    let column = c.beside-column.ensures in
    omega (arith, c.place.ensures, pixel_in r.models.now r.width r.height c.beside-column.result c.beside-row.result column.inside row.inside, r.long)

pub returns : goal.returns
returns c =
    let r = c.args.self.rough in
    let column = c.beside-column.ensures in
    let row = c.beside-row.ensures in
    c.set.ensures
    ∙ rw (
      c.model_at.ensures,
      c.place.ensures,
      sym (model_is r.models.now r.width r.height c.beside-column.result c.beside-row.result column.inside row.inside),
      column.moved,
      row.moved,
    )
