-- What is left to answer of `fit_trial::pick`'s goals: of three models (1, 0) none is picked, and else the best is the
-- definition's.
use mathlib.Core.Path.{sym, ◌∙◌}
use Rattle.rules.specs.Window.{pick, own_same}
use Rattle.fit_total.specs.Around.{around}
use Rattle.fit_trial.proofs.Picked.{none_picked, best_is}
use Rattle.fit_trial.proofs.pick.Goals as goal

pub returns-then-all_plain : goal.returns-then-all_plain
returns-then-all_plain c =
    let a = c.args in
    let m = c.models-trials in
    sym (none_picked (around a.window.now) a.settings.limit a.settings.strict m.result m.ensures a.settings.evidence (sym c.all_plain.ensures ∙ c.if-all_plain.true))

pub returns : goal.returns
unfolding pick own_same
returns c =
    let a = c.args in
    let m = c.models-trials in
    rw (c.found.ensures, c.best.ensures, best_is (around a.window.now) a.settings.limit a.settings.strict m.result m.ensures, a.window.now.counts.now.counted.here_is)
