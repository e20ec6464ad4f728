-- What is left to answer of `fit_keep::reset`'s goals.
use mathlib.Core.Path.{refl, sym, ◌∙◌}
use borrow.Author.Tests.{eq-eqb, ne_eqb}
use Rattle.rules.specs.Forms.{turns}
use Rattle.table.proofs.Turns.{turns_more}
use Rattle.fit_keep.specs.Pass.{reset_step}
use Rattle.fit_keep.proofs.reset.Goals as goal
use Rattle.fit_keep.proofs.reset.Goals.{then-byte-eq2, else-byte-eq2}

pub loop-at-init : goal.loop-at-init
unfolding turns
loop-at-init c = refl

pub loop-at-preserved : goal.loop-at-preserved
unfolding reset_step
loop-at-preserved c = turns_more _ _ _ _ _ c.loop-at.invariant (elim c.if-byte-eq2.branch [
  | then-byte-eq2 w ↦ w.models-is ∙ w.put_model.ensures ∙ sym (simp (eq-eqb _ _ w.if-byte-eq2.true))
  | else-byte-eq2 w ↦ w.models-is ∙ sym (simp (ne_eqb _ _ w.if-byte-eq2.false))
])
