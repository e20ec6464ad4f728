-- What is left to answer of `fit::fitted`'s goals.
use Rattle.fit.proofs.Parts.{lent_is, modelled}
use Rattle.fit.proofs.fitted.Goals as goal

pub returns : goal.returns
returns c =
    let a = c.args in
    let n = c.counts_of.ensures in
    modelled a.sums a.pairs c.counts_of.result n.before n.here n.after _ _ _ _ c.requires a.settings _ _ _ _ _ _
    _ (lent_is a.sums a.pairs c.counts_of.result n.before n.here n.after) c.rows.ensures c.keep.ensures (rw c.cells.ensures at c.distances.ensures)
