-- `stats_refuse::stats_refusal` meets its contract. Assumes nothing.
use mathlib.Core.List.{[], ◌∷◌}
use lib.Dec.{leb}
use Rattle.std.proofs.Common.{rules, ◌≡◌, sym, ◌∙◌}
use Rattle.std.proofs.lemmas.Result.{err_from_is_err_and}
use Rattle.rules.specs.Refusals.{◌unless◌, first_fitting, stats_refusal, numbered}
use Rattle.stats_refuse.proofs.stats_refusal.Goals as goal

pub returns-in_err-pair_refusal : goal.returns-in_err-pair_refusal
unfolding stats_refusal first_fitting
returns-in_err-pair_refusal c =
    let p = err_from_is_err_and c.from_residual.result c.from_residual.ensures.1 in
    let tell = rw c.exact_planes-sums.ensures at c.in_err-pair_refusal.ensures ((7 unless leb c.args.numbers.pairs 11) ∷ []) in
    rw (p.1, p.2) (sym tell)

pub returns : goal.returns
unfolding stats_refusal first_fitting
returns c =
    let tell = rw c.exact_planes-sums.ensures at c.in_ok-pair_refusal.ensures ((7 unless leb c.args.numbers.pairs 11) ∷ []) in
    let last : numbered c.ensure.result ≡ first_fitting ((7 unless leb c.args.numbers.pairs 11) ∷ []) = search rules in
    last ∙ sym tell
