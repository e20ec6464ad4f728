-- What is left to answer of `fit_rough::Search::rows`'s goals.
use native.Mathlib.Nat.{le_antisymm}
use native.Mathlib.Omega.{arith}
use Rattle.fit_rough.proofs.Whole.{searched}
use Rattle.fit_rough.proofs.Search.rows.Goals as goal

pub returns : goal.returns
returns c =
    let l = c.loop-y in
    searched _ _ _ _ _ (omega (arith, c.requires.models_long, c.requires.kept_long)) c.requires.kept_long _ _
    (rw (le_antisymm l.auto.y-end c.loop-y-test.false) at l.invariant)
