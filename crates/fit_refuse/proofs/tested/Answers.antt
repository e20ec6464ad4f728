-- What is left to answer of `fit_refuse::tested`'s goals: the rows of the work slices read no part, and the rows of the
-- pairs stand behind them.
use mathlib.Core.Path.{sym, ◌∙◌}
use Rattle.std.proofs.lemmas.Result.{err_from_is_err_and}
use Rattle.calls.specs.Lent.{fit_of}
use Rattle.fit_refuse.specs.Call.{parts_by, count_rows}
use Rattle.fit_refuse.proofs.Rows.{behind}
use Rattle.fit_refuse.proofs.tested.Goals as goal

pub returns-in_err-works : goal.returns-in_err-works
returns-in_err-works c =
    let a = c.args in
    let p = err_from_is_err_and c.from_residual-in_err-works.result c.from_residual-in_err-works.ensures.1 in
    let rest = behind a.sums a.numbers a.models.now a.kept.now a.cover.now (fit_of a.luma.now a.chroma1.now a.chroma2.now)
    (sym c.sizes.ensures ∙ c.in_ok-ensure.ensures) (sym c.ratioed.ensures ∙ c.in_ok-ensure-2.ensures)
    (sym c.neighbour-previous.ensures ∙ c.in_ok-ensure-3.ensures) (sym c.summed-own.ensures ∙ c.in_ok-ensure-4.ensures)
    (sym c.neighbour-next.ensures ∙ c.in_ok-ensure-5.ensures) in
    rw (p.1, p.2) (sym (rest ∙ c.in_err-works.ensures (parts_by a.sums a.numbers.pairs) (count_rows a.numbers.pairs)))

pub returns : goal.returns
returns c =
    let a = c.args in
    let rest = behind a.sums a.numbers a.models.now a.kept.now a.cover.now (fit_of a.luma.now a.chroma1.now a.chroma2.now)
    (sym c.sizes.ensures ∙ c.in_ok-ensure.ensures) (sym c.ratioed.ensures ∙ c.in_ok-ensure-2.ensures)
    (sym c.neighbour-previous.ensures ∙ c.in_ok-ensure-3.ensures) (sym c.summed-own.ensures ∙ c.in_ok-ensure-4.ensures)
    (sym c.neighbour-next.ensures ∙ c.in_ok-ensure-5.ensures) in
    c.counted.ensures ∙ sym (rest ∙ c.in_ok-works.ensures (parts_by a.sums a.numbers.pairs) (count_rows a.numbers.pairs))
