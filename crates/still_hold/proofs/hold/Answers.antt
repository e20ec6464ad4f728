-- What is asked of the pass follows from the tests, and its rule by these steps is hold's.
use mathlib.Core.Path.{sym}
use Rattle.std.proofs.lemmas.Result.{err_from_is_err_and}
use Rattle.still_pass.proofs.Pass.{refused, ran, painted_is}
use Rattle.still_hold.proofs.Runs.{rule_is, runs}
use Rattle.still_hold.proofs.hold.Goals as goal

pub invariant_of-job : goal.invariant_of-job
invariant_of-job c =
    let a = c.args in
    let r = runs a.output.now a.held.now a.mask.now a.numbers (sym c.in_ok-tested.ensures) in
    record { cells = rw c.steps_of.ensures r.1; apart = r.2.apart; frames = r.2.inside }

pub pass-requires : goal.pass-requires
pass-requires c =
    let a = c.args in
    (runs a.output.now a.held.now a.mask.now a.numbers (sym c.in_ok-tested.ensures)).0

pub returns-in_err-tested : goal.returns-in_err-tested
returns-in_err-tested c =
    let p = err_from_is_err_and c.from_residual.result c.from_residual.ensures.1 in
    rw (p.1, p.2) (refused _ _ _ _ c.in_err-tested.ensures)

pub returns : goal.returns
returns c =
    let a = c.args in
    ran _ _ _ _ c.in_ok-tested.ensures
    (rw (c.steps_of.ensures, ← rule_is a.output.now a.held.now a.mask.now a.numbers) at (painted_is _ _ c.pass.ensures))
