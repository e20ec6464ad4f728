-- What is asked of the first two passes follows from the tests, and the third leaves the answer.
use mathlib.Core.Path.{sym, ◌∙◌}
use Rattle.std.proofs.lemmas.Result.{err_from_is_err_and}
use Rattle.calls.specs.Lent.{plane_of}
use Rattle.still_pass.proofs.Pass.{refused, ran}
use Rattle.still_pass.proofs.Accepted.{plane_as_long}
use Rattle.still_same.specs.Same.{settled}
use Rattle.still_mask.proofs.Passes.{holds, answers, runs}
use Rattle.still_mask.proofs.mask.Goals as goal

pub invariant_of-frames : goal.invariant_of-frames
invariant_of-frames c =
    let a = c.args in
    let s = settled a.settings in
    -- no row of the table fits
    let r = runs (plane_of a.first.now a.pitch) (plane_of a.second.now a.pitch) a.width a.height s a.still.now (sym (c.in_ok-tested.ensures s)) in
    record { some = r.3; narrow = r.0.narrow; low = r.0.low; apart = r.1.apart; first_inside = r.1.inside; second_inside = r.2.inside }

pub same_rows-requires : goal.same_rows-requires
same_rows-requires c =
    let a = c.args in
    (runs (plane_of a.first.now a.pitch) (plane_of a.second.now a.pitch) a.width a.height (settled a.settings) a.still.now (sym (c.in_ok-tested.ensures (settled a.settings)))).0

pub mark_rows-requires-clause-room : goal.mark_rows-requires-clause-room
mark_rows-requires-clause-room c =
    let a = c.args in
    let r = runs (plane_of a.first.now a.pitch) (plane_of a.second.now a.pitch) a.width a.height (settled a.settings) a.still.now (sym (c.in_ok-tested.ensures (settled a.settings))) in
    plane_as_long r.0 c.same_rows.auto.still

pub returns-in_err-tested : goal.returns-in_err-tested
returns-in_err-tested c =
    let p = err_from_is_err_and c.from_residual.result c.from_residual.ensures.1 in
    rw (p.1, p.2) (refused _ _ _ _ (c.in_err-tested.ensures (settled c.args.settings)))

pub returns : goal.returns
returns c =
    let a = c.args in
    let p = plane_of a.first.now a.pitch in
    let q = plane_of a.second.now a.pitch in
    let s = settled a.settings in
    let r = runs p q a.width a.height s a.still.now (sym (c.in_ok-tested.ensures s)) in
    let plane = holds p q a.width a.height s _ _ c.same_rows.ensures r.4 in
    ran _ _ _ _ (c.in_ok-tested.ensures s)
    (answers p q a.width a.height s _ _ _ (c.same_rows.auto.still ∙ r.4) (c.mark_rows.ensures _ plane) c.halve.auto.still c.halve.ensures)
