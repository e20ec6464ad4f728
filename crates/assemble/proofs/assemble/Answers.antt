-- What is left to answer of `assemble::assemble`'s goals.
use Rattle.std.proofs.lemmas.Result.{err_from_is_err_and}
use Rattle.assemble.proofs.Whole.{refused, ready, ran}
use Rattle.assemble.proofs.assemble.Goals as goal

pub returns-in_err-tested : goal.returns-in_err-tested
returns-in_err-tested c =
    let p = err_from_is_err_and c.from_residual.result c.from_residual.ensures.1 in
    rw (p.1, p.2) (refused _ _ _ _ _ _ _ _ _ c.in_err-tested.ensures)

pub store-requires : goal.store-requires
store-requires c =
    let r = ready _ _ _ _ _ _ _ _ c.in_ok-tested.ensures in
    rw c.sizes_of-sizes.ensures (record { source = r.0; room = r.1 })

pub returns : goal.returns
returns c = ran _ _ _ _ _ _ _ _ c.in_ok-tested.ensures _ _ _ (rw c.sizes_of-sizes.ensures at c.store.ensures)
