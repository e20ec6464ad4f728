-- What is left to answer of `fit::fit`'s goals.
use Rattle.std.proofs.lemmas.Result.{err_from_is_err_and}
use Rattle.fit.proofs.Whole.{refused, ran}
use Rattle.fit.proofs.fit.Goals as goal

pub returns-in_err-tested : goal.returns-in_err-tested
returns-in_err-tested c =
    let a = c.args in
    let p = err_from_is_err_and c.from_residual.result c.from_residual.ensures.1 in
    rw (p.1, p.2) (refused a.sums a.numbers _ _ _ _ _ _ _ c.in_err-tested.ensures)

pub returns : goal.returns
returns c =
    let a = c.args in
    ran a.sums a.numbers _ _ _ _ _ _ c.in_ok-tested.ensures _ _ _ _ _ _ c.made.ensures
