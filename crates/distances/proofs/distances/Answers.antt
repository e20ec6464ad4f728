-- What is left to answer of `distances::distances`'s goals.
use native.Mathlib.Omega.{arith}
use Rattle.laws.proofs.Answered.{handed}
use Rattle.distances.proofs.Passes.{refused, ran}
use Rattle.distances.proofs.distances.Goals as goal

pub returns-in_err-ensure : goal.returns-in_err-ensure
returns-in_err-ensure c =
    rw (handed c.from_residual.result c.from_residual.ensures.1, c.in_err-ensure.ensures.1) (refused _ _ c.in_err-ensure.ensures.0)

pub returns : goal.returns
returns c =
    ran c.args.cells.now c.args.width _ c.pass_back.new.cells c.in_ok-ensure.ensures (λ k. omega (arith, c.type_inv.cells k)) c.pass_down.ensures c.pass_back.ensures
