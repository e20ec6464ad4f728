-- What is left of `walk_layer::rest`: the rows of fit, by the names of the walk, and whether a layer is due.
use Rattle.std.proofs.Common.{[], ◌∷◌, ◌&&◌, ◌∙◌}
use Rattle.std.proofs.lemmas.Result.{err_from_is_err_and}
use Rattle.rules.specs.declared.Refusal.TheVariants.{Turn}
use Rattle.rules.specs.Refusals.{◌unless◌, Table}
use Rattle.rules.specs.Walk.{is_left, is_due}
use Rattle.calls.specs.Lent.{fit_of}
use Rattle.laws.proofs.Answered.{last_row}
use Rattle.walk_layer.proofs.Taken.{by_name}
use Rattle.walk_layer.proofs.rest.Goals as goal

pub returns-in_err-works : goal.returns-in_err-works
returns-in_err-works c parts =
    let a = c.args in
    let rows : Table = (12 unless is_left a.walk && is_due a.walk) ∷ [] in
    let p = err_from_is_err_and c.from_residual.result c.from_residual.ensures.1 in
    rw (p.1, p.2)
    (by_name parts a.models.now a.kept.now a.cover.now (fit_of a.luma.now a.chroma1.now a.chroma2.now) rows c.of_chunk-numbers.ensures (c.in_err-works.ensures parts rows))

pub returns : goal.returns
returns c parts =
    let a = c.args in
    let rows : Table = (12 unless is_left a.walk && is_due a.walk) ∷ [] in
    last_row Turn _ c.ensure.result (rw c.due.ensures at c.ensure.ensures)
    ∙ by_name parts a.models.now a.kept.now a.cover.now (fit_of a.luma.now a.chroma1.now a.chroma2.now) rows c.of_chunk-numbers.ensures (c.in_ok-works.ensures parts rows)
