-- `layer_refuse::empty_refusal` meets its contract. Assumes nothing.
use mathlib.Core.Path.{refl, sym}
use mathlib.Core.List.{[]}
use Rattle.rules.specs.Refusals.{empty_refusal, first_fitting}
use Rattle.layer_refuse.proofs.empty_refusal.Goals as goal

pub returns : goal.returns
unfolding empty_refusal first_fitting
returns g c = sym (rw c.requires at (c.rows.ensures [] [] refl))
