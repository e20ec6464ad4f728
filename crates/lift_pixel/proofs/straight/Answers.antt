-- What is left to answer of `lift_pixel::straight`'s goals.
use mathlib.Core.Path.{refl, ◌∙◌}
use Rattle.lift_pixel.proofs.Peels.{near_change}
use Rattle.lift_pixel.proofs.straight.Goals as goal

pub returns : goal.returns
returns g c =
    let w = c.args.work in
    let model = rw (c.sheet.ensures.plan, c.sheet.ensures.held) at c.straight-model.ensures in
    c.then_some.ensures
    ∙ rw (c.plain.ensures, c.made-byte.ensures, model)
    (near_change (g.W.Work.byte w) (g.W.Over.plan w).shape (g.W.Over.held w) c.args.x c.args.y c.args.old c.requires.near refl)
