-- What is left to answer of `render::tested`'s goals: the rows of the byte planes, then a motion's, then the time's.
use Rattle.std.proofs.Common.{arith}
use Rattle.std.proofs.lemmas.Grind.{common_steps}
use mathlib.Core.Path.{sym, ◌∙◌}
use mathlib.Core.List.{[], ◌∷◌}
use Rattle.rules.specs.declared.Refusal.TheVariants.{Setting}
use Rattle.rules.specs.Domain.{is_time}
use Rattle.rules.specs.Refusals.{Table, ◌unless◌, motion_rows, render_refusal, first_fitting}
use Rattle.laws.proofs.Answered.{last_row}
use Rattle.motion.specs.Moves.{motion_of}
use Rattle.render.proofs.tested.Goals as goal

pub returns-in_err-frames_rows : goal.returns-in_err-frames_rows
unfolding render_refusal first_fitting
returns-in_err-frames_rows g c algo =
    let time : Table = (6 unless is_time c.args.shape.time) ∷ [] in
    grind (arith, common_steps, c.frames_rows.ensures (motion_rows (motion_of c.args.fields c.args.grid) time))

pub returns-in_err-motion_refusal : goal.returns-in_err-motion_refusal
unfolding render_refusal first_fitting
returns-in_err-motion_refusal g c algo =
    let time : Table = (6 unless is_time c.args.shape.time) ∷ [] in
    grind (arith, common_steps, c.frames_rows.ensures (motion_rows (motion_of c.args.fields c.args.grid) time), c.motion_refusal.ensures time)

pub returns : goal.returns
unfolding render_refusal
returns g c algo =
    let time : Table = (6 unless is_time c.args.shape.time) ∷ [] in
    sym (
    c.in_ok-frames_rows.ensures (motion_rows (motion_of c.args.fields c.args.grid) time)
    ∙ c.in_ok-motion_refusal.ensures time
    ∙ sym (last_row Setting _ _ (rw c.timed.ensures at c.ensure.ensures)))
