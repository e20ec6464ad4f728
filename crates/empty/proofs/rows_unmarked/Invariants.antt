-- The invariant of `empty::rows_unmarked`: none of the first y rows has a 0.
use mathlib.Core.Path.{◌≡◌}
use mathlib.Core.Bool.{true}
use Rattle.layer_lent.specs.Lent.{lay}
use Rattle.empty.specs.Marks.{rows_unmarked}
use Rattle.empty.proofs.rows_unmarked.Given as goal

abbrev pub invariant-loop-y : goal.invariant-loop-y
invariant-loop-y g l = let s = l.fn.sheet in true ≡ rows_unmarked (lay s.plan.shape (g.L.Lent.held s.layer)) l.width l.y
