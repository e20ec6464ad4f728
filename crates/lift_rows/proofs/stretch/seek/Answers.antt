-- What is left to answer of `seek`'s goals.
use Rattle.std.proofs.Common.{rules, ◌≡◌}
use borrow.Author.Tests.{tests}
use mathlib.Core.Bool.{not}
use Rattle.std.proofs.lemmas.Iterator.{serves_from_Range, first_from_Range}
use Rattle.layer_lent.specs.Lent.{lay}
use Rattle.lift_rows.specs.Stretches.{near_cell}
use Rattle.lift_rows.proofs.Cells.{cell_inside, first_is}
use Rattle.lift_rows.proofs.stretch.seek.Goals as goal

pub find-requires-clause-callable : goal.find-requires-clause-callable
find-requires-clause-callable g c =
    let s = c.args.sheet in
    serves_from_Range (λ x q r. search rules)
    (λ x low high. let i = cell_inside s.plan (g.L.Lent.held s.layer) s.sound.planned x c.args.row c.requires (rw c.cells.ensures at high) in λ y is _ _ _ _ _ _ _ _ _. rw is i)

pub returns : goal.returns
returns g c =
    let a = c.args in
    let l = lay a.sheet.plan.shape (g.L.Lent.held a.sheet.layer) in
    let found = first_from_Range _ _ _ c.find.result (λ k. near_cell l k a.row ≡ a.near) (λ k. near_cell l k a.row ≡ not a.near) c.find.ensures.ran
    (λ x q k. search (rules, tests)) (λ x q k. search (rules, tests)) in
    first_is l a.row a.near a.from _ c.find.result (rw c.cells.ensures at found)
