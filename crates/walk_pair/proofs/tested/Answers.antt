-- What is left of `walk_pair::tested`: the rows of stats, by the names of the walk, and the pair's turn.
use Rattle.std.proofs.Common.{[], ◌∷◌, ◌∙◌}
use Rattle.std.proofs.lemmas.Result.{err_from_is_err_and}
use Rattle.rules.specs.declared.Refusal.TheVariants.{Turn}
use Rattle.rules.specs.Refusals.{◌unless◌, Table}
use Rattle.rules.specs.Walk.{is_turn}
use Rattle.laws.proofs.Answered.{last_row}
use Rattle.walk_pair.proofs.Handed.{by_names}
use Rattle.walk_pair.proofs.tested.Goals as goal

pub returns-in_err-pair_refusal : goal.returns-in_err-pair_refusal
returns-in_err-pair_refusal c =
    let a = c.args in
    let rows : Table = (12 unless is_turn a.walk a.number) ∷ [] in
    let p = err_from_is_err_and c.from_residual.result c.from_residual.ensures.1 in
    rw (p.1, p.2) (by_names a.pair rows c.of_chunk.ensures c.slotted-sums.ensures (c.in_err-pair_refusal.ensures rows))

pub returns : goal.returns
returns c =
    let a = c.args in
    let rows : Table = (12 unless is_turn a.walk a.number) ∷ [] in
    last_row Turn _ c.ensure.result (rw c.turn.ensures at c.ensure.ensures)
    ∙ by_names a.pair rows c.of_chunk.ensures c.slotted-sums.ensures (c.in_ok-pair_refusal.ensures rows)
