-- `scene_between::gathered_at` meets its contract, by its callees'. Assumes nothing.
use mathlib.Core.Path.{◌≡◌}
use Rattle.rules.specs.Reading.{model_at}
use Rattle.rules.specs.Scene.{under}
use Rattle.layer_lent.specs.Lent.{lay}
use Rattle.layer_point.proofs.Points.{model_is, sample_is, across_is, down_is}
use Rattle.scene_lift.proofs.Gathers.{taken, passed}
use Rattle.scene_between.proofs.gathered_at.Goals as goal

pub returns-then-abs : goal.returns-then-abs
unfolding under
returns-then-abs g c =
    let a = c.args in
    let p = a.seen.now.sheet.plan in
    let h = a.seen.now.sheet.sound.planned in
    let model : c.model_by-model.result ≡ model_at (lay p.shape (g.L.Lent.held a.seen.now.sheet.layer)) p.shape.plane a.x a.y =
    rw (c.model_by-model.ensures, c.between-down.ensures.is, c.between-across.ensures.is)
    (model_is p _ _ (across_is _ h) (down_is _ h) _ _) in
    let l = lay p.shape (g.L.Lent.held a.seen.now.sheet.layer) in
    rw (
      c.added.ensures,
      c.lift.ensures,
      c.sample_at-value.ensures,
      c.between-down.ensures.is,
      c.between-across.ensures.is,
      model,
      sample_is p l p.shape.plane (across_is _ h) (down_is _ h) a.x a.y _,
    )
    (taken _ _ _ (rw (c.abs.ensures, model) at c.if-abs.true))

pub returns-else-abs : goal.returns-else-abs
unfolding under
returns-else-abs g c =
    let a = c.args in
    let p = a.seen.now.sheet.plan in
    let h = a.seen.now.sheet.sound.planned in
    let model : c.model_by-model.result ≡ model_at (lay p.shape (g.L.Lent.held a.seen.now.sheet.layer)) p.shape.plane a.x a.y =
    rw (c.model_by-model.ensures, c.between-down.ensures.is, c.between-across.ensures.is)
    (model_is p _ _ (across_is _ h) (down_is _ h) _ _) in
    passed _ _ _ (rw (c.abs.ensures, model) at c.if-abs.false)
