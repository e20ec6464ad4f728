-- What is left to answer of `fit_window::Lent::window`'s goals: where the evidence figure is reached, by the search
-- over the pixel's sums, else by `unseen`.
use mathlib.Core.Path.{sym}
use Rattle.fit_window.specs.Lent.{parts_lent}
use Rattle.fit_window.proofs.Held.{one-window}
use Rattle.fit_window.proofs.Unseen.{unseen}
use Rattle.fit_window.proofs.Lent.window.Goals as goal

-- the search over the sums of the pixel
pub returns : goal.returns
returns c =
    let a = c.args in
    let s = a.settings in
    rw (c.search.ensures, c.sums_of-2.ensures, c.sums_at.ensures, c.sums_of.ensures) (one-window a.self.now a.at s.limit s.evidence s.strict)

-- no trial reaches the evidence figure
pub returns-then-not-shown : goal.returns-then-not-shown
returns-then-not-shown c =
    let a = c.args in
    let s = a.settings in
    sym (unseen (parts_lent a.self.now) a.at s.limit s.evidence (rw c.shown.ensures at c.if-not-shown.true) s.strict)
