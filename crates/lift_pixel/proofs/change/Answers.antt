-- What is left to answer of `lift_pixel::change`'s goals.
use mathlib.Core.Path.{sym, ◌∙◌}
use Rattle.lift_pixel.proofs.Peels.{near_change}
use Rattle.lift_pixel.proofs.change.Goals as goal

pub returns-then-plain : goal.returns-then-plain
returns-then-plain g c =
    let w = c.args.work in
    let model = rw (c.sheet.ensures.plan, c.sheet.ensures.held) at c.texel-model.ensures in
    near_change (g.W.Work.byte w) (g.W.Over.plan w).shape (g.W.Over.held w) c.args.x c.args.y c.args.old c.requires.near (rw model at (sym c.plain.ensures ∙ c.if-plain.true))

pub returns : goal.returns
returns g c =
    let w = c.args.work in
    let model = rw (c.sheet.ensures.plan, c.sheet.ensures.held) at c.texel-model.ensures in
    rw c.made.ensures
    (near_change (g.W.Work.byte w) (g.W.Over.plan w).shape (g.W.Over.held w) c.args.x c.args.y c.args.old c.requires.near (rw model at (sym c.plain.ensures ∙ c.if-plain.false)))
