-- `scene_between::ring_step` meets its contract, by its callees'. Assumes nothing.
use mathlib.Core.Path.{sym}
use borrow.Author.Tests.{eq-eqb, ne_eqb}
use Rattle.rules.specs.Scene.{point, stepped}
use Rattle.layer_point.proofs.Points.{across_is, down_is}
use Rattle.scene_between.proofs.ring_step.Goals as goal

pub returns-then-side-eq4 : goal.returns-then-side-eq4
unfolding stepped
returns-then-side-eq4 g c = sym (simp (eq-eqb _ _ c.if-side-eq4.true))

pub returns : goal.returns
unfolding stepped point
returns g c =
    let h = c.args.seen.now.sheet.sound.planned in
    rw (c.gathered_at.ensures, c.beside-v.ensures.is, c.beside-u.ensures.is, across_is _ h, down_is _ h)
    (sym (simp (ne_eqb _ _ c.if-side-eq4.false)))
