-- `layer_refuse::peel_refusal` meets its contract. Assumes nothing.
use mathlib.Core.Path.{refl, sym}
use mathlib.Core.List.{[], ◌∷◌}
use Rattle.rules.specs.Refusals.{peel_refusal, first_fitting}
use Rattle.layer_lent.specs.Lent.{output_by, first_by}
use Rattle.layer_refuse.proofs.peel_refusal.Goals as goal

pub returns : goal.returns
unfolding peel_refusal first_fitting
returns g c =
    let a = c.args in
    sym (c.rows.ensures (output_by a.shape a.output.now ∷ first_by a.shape a.frames ∷ []) [] refl)
