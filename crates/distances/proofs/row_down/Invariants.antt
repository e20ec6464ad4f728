-- The row is passed up to column x, and what is beside it is at hand.
use Rattle.std.proofs.Common.{◌≡◌, ◌+◌, ◌-◌, get_or}
use Rattle.distances.specs.Pass.{Passed, Down}
use Rattle.distances.proofs.row_down.Given as goal

abbrev pub invariant-loop-x : goal.invariant-loop-x
invariant-loop-x l = record {
  left_is : l.left ≡ l.x - 1;
  beside_is : l.beside ≡ get_or l.cells (l.row + l.left) 0;
  passed : Passed (Down l.width l.row) (Down l.width (l.row + l.x)) l.width l.initial.cells l.cells;
}
