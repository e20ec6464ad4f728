-- `layer_refuse::unpeel_refusal` meets its contract. Assumes nothing.
use Rattle.std.proofs.Common.{arith}
use Rattle.std.proofs.lemmas.Grind.{common_steps}
use mathlib.Core.List.{[], ◌∷◌}
use Rattle.rules.specs.Domain.{is_time}
use Rattle.rules.specs.Refusals.{◌unless◌, unpeel_refusal, first_fitting}
use Rattle.layer_refuse.proofs.unpeel_refusal.Goals as goal

pub returns-in_err-frames_rows : goal.returns-in_err-frames_rows
unfolding unpeel_refusal first_fitting
returns-in_err-frames_rows g c =
    grind (arith, common_steps, c.frames_rows.ensures ((6 unless is_time c.args.shape.time) ∷ []))

pub returns : goal.returns
unfolding unpeel_refusal first_fitting
returns g c =
    grind (arith, common_steps, c.frames_rows.ensures ((6 unless is_time c.args.shape.time) ∷ []))
