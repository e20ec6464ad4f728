-- What is left to answer of `fit::made`'s goals.
use Rattle.fit.proofs.Runs.{asks, assembles}
use Rattle.fit.proofs.Whole.{stored}
use Rattle.fit.proofs.made.Goals as goal

pub fitted-requires : goal.fitted-requires
fitted-requires c = rw c.sizes_of-sizes.ensures (asks c.args.sums c.args.numbers _ _ _ _ _ _ c.requires)

pub store-requires : goal.store-requires
store-requires c =
    let f = c.fitted in
    let r = assembles c.args.sums c.args.numbers _ _ _ _ _ _ c.requires f.new.models f.new.cover f.auto.models f.auto.cover in
    rw c.sizes_of-sizes.ensures (record { source = r.0; room = r.1 })

pub returns : goal.returns
returns c =
    stored c.args.sums c.args.numbers _ _ _ _ _ _ c.requires _ c.sizes_of-sizes.ensures _ _ c.fitted.ensures _ _ _ c.store.ensures
