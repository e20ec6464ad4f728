-- What is left to answer of `fit_rough::Search::row`'s goals.
use mathlib.Core.Path.{sym, ◌∙◌}
use Rattle.rules.specs.Forms.{scan_row}
use Rattle.table.proofs.Turns.{turns_more}
use Rattle.fit_rough.proofs.Pixels.{none_found, one_found}
use Rattle.fit_rough.proofs.Search.row.Goals as goal

pub loop-x-preserved-in_default : goal.loop-x-preserved-in_default
unfolding scan_row
loop-x-preserved-in_default c =
    turns_more _ _ _ _ _ c.loop-x.invariant (none_found _ _ _ _ _ c.place-at.ensures _ _ (sym c.window.ensures ∙ c.in_default.is) c.pass_over.ensures)

pub loop-x-preserved : goal.loop-x-preserved
unfolding scan_row
loop-x-preserved c =
    turns_more _ _ _ _ _ c.loop-x.invariant (one_found _ _ _ _ _ c.place-at.ensures _ _ _ _ (sym c.window.ensures ∙ c.in-At.is) c.put_found.ensures)
