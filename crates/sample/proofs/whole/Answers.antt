-- `sample::whole` meets its contract. Assumes nothing.
use mathlib.Core.Path.{◌∙◌}
use Rattle.sample.proofs.Cut.{Cuts, cuts}
use Rattle.sample.proofs.whole.Goals as goal

pub cut_low-requires : goal.cut_low-requires
cut_low-requires c =
    let k : Cuts c.args.x c.max.result = rw c.max.ensures (cuts c.args.x c.requires) in
    record { unsigned = k.sign; low = k.under }

pub returns : goal.returns
returns c =
    let k : Cuts c.args.x c.max.result = rw c.max.ensures (cuts c.args.x c.requires) in
    c.cut_low.ensures ∙ k.is
