-- What is left to answer of `empty::rows_unmarked`'s goals.
use mathlib.Core.Path.{sym, ◌∙◌}
use Prim.Native.Nat.{ℕ}
use Rattle.layer_lent.specs.Lent.{lay}
use Rattle.empty.specs.Marks.{row_unmarked}
use Rattle.empty.proofs.Rows.{all_false}
use Rattle.empty.proofs.rows_unmarked.Goals as goal

pub returns-then-not-row_unmarked : goal.returns-then-not-row_unmarked
returns-then-not-row_unmarked g c =
    let a = c.args in
    let l = lay a.sheet.plan.shape (g.L.Lent.held a.sheet.layer) in
    sym (all_false _ c.loop-y.y (λ (y : ℕ). row_unmarked l y a.width) c.loop-y-test.true (sym c.row_unmarked.ensures ∙ c.if-not-row_unmarked.true))
