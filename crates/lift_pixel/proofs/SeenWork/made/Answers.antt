-- What is left to answer of the goals of `made` of peel.
use mathlib.Core.Path.{sym, ap, ◌∙◌}
use native.Mathlib.Omega.{arith}
use Rattle.rules.specs.declared.Scene.{Scene}
use Rattle.rules.specs.Float.{pixel}
use Rattle.rules.specs.Scene.{value}
use Rattle.lift_pixel.proofs.Peels.{scene-lifted, scene_raw}
use Rattle.lift_pixel.proofs.SeenWork.made.Goals as goal

pub returns-in-Lifted : goal.returns-in-Lifted
returns-in-Lifted g c =
    let h = c.args.self.sheet.sound.planned in
    let i = c.requires.inside in
    let e = sym (rw c.at.ensures at c.lifted.ensures) ∙ c.in-Lifted.is in
    c.pixel.ensures
    ∙ ap pixel (scene-lifted _ _ _ c.small.ensures c.args.x c.args.y (omega (arith, h.wide.1, i.left)) (omega (arith, h.tall.1, i.above)) c.args.model c.requires.texel _ e)

pub returns-in-Raw : goal.returns-in-Raw
returns-in-Raw g c =
    let h = c.args.self.sheet.sound.planned in
    let i = c.requires.inside in
    let e = sym (rw c.at.ensures at c.lifted.ensures) ∙ c.in-Raw.is in
    rw (c.pixel-in-Raw.ensures, c.value.ensures, c.rings-scene.ensures)
    (ap (λ (z : Scene). pixel (value z))
    (scene_raw _ _ _ c.small.ensures c.args.x c.args.y (omega (arith, h.wide.1, i.left)) (omega (arith, h.tall.1, i.above)) c.args.model c.requires.texel _ e))
