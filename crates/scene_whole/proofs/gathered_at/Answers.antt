-- `scene_whole::gathered_at` meets its contract. Assumes nothing.
use mathlib.Core.Path.{◌≡◌, sym, ◌∙◌}
use mathlib.Core.Bool.{true, false}
use mir.Syntax.{w32}
use Rattle.rules.specs.Literals.{0·2}
use Rattle.rules.specs.Float.{◌≼◌, abs}
use Rattle.rules.specs.Reading.{texel}
use Rattle.layer_lent.specs.Lent.{lay}
use Rattle.layer_lent.proofs.Signed.{back}
use Rattle.scene_whole.specs.Rings.{seen}
use Rattle.scene_lift.proofs.Gathers.{taken, passed}
use Rattle.scene_whole.proofs.gathered_at.Goals as goal

pub returns-then-strong : goal.returns-then-strong
unfolding seen
returns-then-strong g c =
    let a = c.args in
    let n = c.gains-total in
    -- the test is the one of the texel's gain
    let p = a.seen.now.sheet.plan in
    let t : (0·2 ≼ abs (texel (lay p.shape (g.L.Lent.held a.seen.now.sheet.layer)) p.shape.plane a.x a.y).gain) ≡ true =
    rw (n.ensures.is _ _) (rw (← back w32 n.result n.type_inv) (sym c.strong.ensures ∙ c.if-strong.true)) in
    rw (c.added.ensures, c.lifted_at.ensures) (taken _ _ _ t)

pub returns-else-strong : goal.returns-else-strong
unfolding seen
returns-else-strong g c =
    let a = c.args in
    let n = c.gains-total in
    -- the test is the one of the texel's gain
    let p = a.seen.now.sheet.plan in
    let t : (0·2 ≼ abs (texel (lay p.shape (g.L.Lent.held a.seen.now.sheet.layer)) p.shape.plane a.x a.y).gain) ≡ false =
    rw (n.ensures.is _ _) (rw (← back w32 n.result n.type_inv) (sym c.strong.ensures ∙ c.if-strong.false)) in
    passed _ _ _ t
