-- The invariant of `stats_add::add_terms`: the first j terms are added. Assumes nothing.
use Rattle.std.proofs.Common.{◌≡◌}
use Rattle.stats_add.specs.Added.{terms_added}
use Rattle.stats_add.proofs.add_terms.Given as goal

abbrev pub invariant-loop-j : goal.invariant-loop-j
invariant-loop-j g l = l.sums ≡ terms_added l.pairs l.j l.terms l.k l.initial.sums
