-- What is left to answer of `peel::unpeel`'s goals.
use mathlib.Core.Path.{sym}
use mathlib.Core.List.{[], ◌∷◌}
use Rattle.std.proofs.lemmas.Result.{err_from_is_err_and}
use Rattle.rules.specs.Unpeel.{unpeel_rule}
use Rattle.layer_lent.specs.Lent.{framed}
use Rattle.peel.proofs.Calls.{refused, ran, unpeel_runs}
use Rattle.peel.proofs.unpeel.Goals as goal

pub invariant_of-sheet : goal.invariant_of-sheet
invariant_of-sheet g c =
    let a = c.args in
    let r = unpeel_runs (framed a.shape a.first_pitch a.second_pitch) (g.L.Lent.held a.layer) a.output.now (a.first ∷ a.second ∷ []) (sym c.in_ok-unpeel_refusal.ensures) in
    rw c.planned-plan.ensures (record { sound = r.sound })

pub invariant_of-work : goal.invariant_of-work
invariant_of-work g c =
    let a = c.args in
    let r = unpeel_runs (framed a.shape a.first_pitch a.second_pitch) (g.L.Lent.held a.layer) a.output.now (a.first ∷ a.second ∷ []) (sym c.in_ok-unpeel_refusal.ensures) in
    rw c.planned-plan.ensures (record { first_lies = r.first; second_lies = r.second })

pub rows-requires : goal.rows-requires
rows-requires g c =
    let a = c.args in
    let r = unpeel_runs (framed a.shape a.first_pitch a.second_pitch) (g.L.Lent.held a.layer) a.output.now (a.first ∷ a.second ∷ []) (sym c.in_ok-unpeel_refusal.ensures) in
    rw c.planned-plan.ensures r.room

pub returns-in_err-unpeel_refusal : goal.returns-in_err-unpeel_refusal
returns-in_err-unpeel_refusal g c =
    let p = err_from_is_err_and c.from_residual.result c.from_residual.ensures.1 in
    rw (p.1, p.2) (refused _ _ _ _ _ c.in_err-unpeel_refusal.ensures)

pub returns : goal.returns
unfolding unpeel_rule
returns g c =
    let a = c.args in
    let r = unpeel_runs (framed a.shape a.first_pitch a.second_pitch) (g.L.Lent.held a.layer) a.output.now (a.first ∷ a.second ∷ []) (sym c.in_ok-unpeel_refusal.ensures) in
    ran _ _ _ _ _ _ _ _ c.in_ok-unpeel_refusal.ensures r.sound.planned.tall.1 (rw c.planned-plan.ensures at c.rows.ensures)
