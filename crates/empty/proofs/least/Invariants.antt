-- The invariant of `empty::least`: the least of the first x is 0 where one of them is.
use mathlib.Core.Path.{◌≡◌}
use mathlib.Core.Bool.{not}
use lib.Dec.{eqb}
use Rattle.layer_lent.specs.Lent.{lay}
use Rattle.empty.specs.Marks.{row_unmarked}
use Rattle.empty.proofs.least.Given as goal

abbrev pub invariant-loop-x : goal.invariant-loop-x
invariant-loop-x g l = let s = l.fn.sheet in not (eqb l.least 0) ≡ row_unmarked (lay s.plan.shape (g.L.Lent.held s.layer)) l.y l.x
