-- What is left to answer of `empty::empty`'s goals.
use mathlib.Core.Path.{refl, sym, ◌∙◌}
use Rattle.laws.proofs.Answered.{handed}
use Rattle.rules.specs.Reading.{empty}
use Rattle.empty.proofs.Rows.{in_rows}
use Rattle.empty.proofs.Replies.{refused, ran}
use Rattle.empty.proofs.empty.Goals as goal

pub rows_unmarked-requires : goal.rows_unmarked-requires
rows_unmarked-requires g c =
    rw (c.planned-plan.ensures, c.cells-width.ensures, c.cells-height.ensures)
    (in_rows _ (g.L.Lent.held c.args.layer) refl (sym c.in_ok-empty_refusal.ensures)).1

pub invariant_of-rows_unmarked : goal.invariant_of-rows_unmarked
invariant_of-rows_unmarked g c =
    record { sound = rw c.planned-plan.ensures (in_rows _ (g.L.Lent.held c.args.layer) refl (sym c.in_ok-empty_refusal.ensures)).0 }

pub returns-in_err-empty_refusal : goal.returns-in_err-empty_refusal
returns-in_err-empty_refusal g c =
    rw (handed c.from_residual.result c.from_residual.ensures.1) (refused _ _ _ c.in_err-empty_refusal.ensures)

pub returns : goal.returns
unfolding empty
returns g c =
    ran _ _ _ c.in_ok-empty_refusal.ensures (c.rows_unmarked.ensures ∙ rw (c.planned-plan.ensures, c.cells-width.ensures, c.cells-height.ensures))
