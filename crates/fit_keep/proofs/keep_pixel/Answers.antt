-- What is left to answer of `fit_keep::keep_pixel`'s goals.
use Prim.Native.Nat.{◌+◌, ◌*◌, ◌/◌}
use mathlib.Core.Path.{◌≡◌, ◌∙◌}
use Rattle.rules.specs.Forms.{cells}
use Rattle.fit_keep.proofs.Steps.{step_none, step_some, cell_is}
use Rattle.fit_keep.proofs.keep_pixel.Goals as goal

pub returns-then-kept-at-eq0 : goal.returns-then-kept-at-eq0
returns-then-kept-at-eq0 c = step_none _ _ _ _ (rw c.place-at.ensures at c.if-kept-at-eq0.true)

pub returns : goal.returns
returns c =
    let p = c.args.pixel in
    let w = p.rough.width in
    let here : c.place-cell.result ≡ p.y / 8 * cells w + p.x / 8 = c.place-cell.ensures ∙ rw (c.cell_of-2.ensures, c.cells.ensures, c.cell_of.ensures) in
    let some = rw c.place-at.ensures at c.if-kept-at-eq0.false in
    c.mark.ensures ∙ rw (c.verdict.ensures, here, ← cell_is w p.x p.y p.left, c.place-at.ensures) (step_some _ _ _ _ some)
