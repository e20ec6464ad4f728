-- What is left to answer of `render_pixel::moved`'s goals.
use Rattle.rules.specs.Scene.{under, scene}
use Rattle.rules.specs.Render.{moved as moved_of}
use Rattle.layer_lent.specs.Lent.{lay}
use Rattle.layer_point.proofs.Points.{model_is, sample_is, across_is, down_is}
use Rattle.render_pixel.proofs.moved.Goals as goal

pub returns : goal.returns
unfolding moved_of scene under
returns g c =
    let a = c.args in
    let p = a.seen.now.sheet.plan in
    let h = a.seen.now.sheet.sound.planned in
    let l = lay p.shape (g.L.Lent.held a.seen.now.sheet.layer) in
    let wide = across_is p h in
    let tall = down_is p h in
    rw (
      c.is_on.ensures,
      c.filled.ensures,
      c.lifted-under.ensures,
      c.sample_at-value.ensures,
      c.model_by-model.ensures,
      c.between-down.ensures.is,
      c.between-across.ensures.is,
      model_is p l p.shape.plane wide tall _ _,
      sample_is p l p.shape.plane wide tall _ _ _,
      c.shifted-v.ensures.is,
      c.shifted-u.ensures.is,
      wide,
      tall,
    )
