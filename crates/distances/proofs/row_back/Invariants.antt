-- The row is passed back to column x, and what is beside it is at hand.
use Rattle.std.proofs.Common.{◌≡◌, ◌+◌, ◌-◌, min, get_or}
use Rattle.rules.specs.Distances.{whole}
use Rattle.distances.specs.Pass.{Passed, Back}
use Rattle.distances.proofs.row_back.Given as goal

abbrev pub invariant-loop-x : goal.invariant-loop-x
invariant-loop-x l = record {
  right_is : l.right ≡ min l.x (l.width - 1);
  beside_is : l.beside ≡ get_or l.cells (l.row + l.right) 0;
  passed : Passed (Back l.width (whole l.initial.cells l.width) (l.row + l.width)) (Back l.width (whole l.initial.cells l.width) (l.row + l.x)) l.width l.initial.cells l.cells;
}
