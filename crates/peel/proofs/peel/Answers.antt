-- What is left to answer of `peel::peel`'s goals.
use mathlib.Core.Path.{sym}
use mathlib.Core.List.{[], ◌∷◌}
use Rattle.std.proofs.lemmas.Result.{err_from_is_err_and}
use Rattle.rules.specs.Peel.{peel_rule}
use Rattle.layer_lent.specs.Lent.{framed}
use Rattle.peel.proofs.Calls.{refused, ran, peel_runs}
use Rattle.peel.proofs.peel.Goals as goal

pub invariant_of-sheet : goal.invariant_of-sheet
invariant_of-sheet g c =
    let a = c.args in
    let r = peel_runs (framed a.shape a.pitch a.pitch) (g.L.Lent.held a.layer) a.output.now (a.raw ∷ a.raw ∷ []) (sym c.in_ok-peel_refusal.ensures) in
    rw c.planned-plan.ensures (record { sound = r.0 })

pub invariant_of-seen : goal.invariant_of-seen
invariant_of-seen g c =
    let a = c.args in
    let r = peel_runs (framed a.shape a.pitch a.pitch) (g.L.Lent.held a.layer) a.output.now (a.raw ∷ a.raw ∷ []) (sym c.in_ok-peel_refusal.ensures) in
    rw c.planned-plan.ensures (record { lies = r.1 })

pub rows-requires : goal.rows-requires
rows-requires g c =
    let a = c.args in
    let r = peel_runs (framed a.shape a.pitch a.pitch) (g.L.Lent.held a.layer) a.output.now (a.raw ∷ a.raw ∷ []) (sym c.in_ok-peel_refusal.ensures) in
    rw c.planned-plan.ensures r.2

pub returns-in_err-peel_refusal : goal.returns-in_err-peel_refusal
returns-in_err-peel_refusal g c =
    let p = err_from_is_err_and c.from_residual.result c.from_residual.ensures.1 in
    rw (p.1, p.2) (refused _ _ _ _ _ c.in_err-peel_refusal.ensures)

pub returns : goal.returns
unfolding peel_rule
returns g c =
    let a = c.args in
    let r = peel_runs (framed a.shape a.pitch a.pitch) (g.L.Lent.held a.layer) a.output.now (a.raw ∷ a.raw ∷ []) (sym c.in_ok-peel_refusal.ensures) in
    ran _ _ _ _ _ _ _ _ c.in_ok-peel_refusal.ensures r.0.planned.tall.1 (rw c.planned-plan.ensures at c.rows.ensures)
