-- The invariant of `still_cells::byte_sum`: the first dy rows are added.
use mathlib.Core.Path.{◌≡◌}
use Prim.Native.Nat.{◌*◌, ◌≤◌}
use Rattle.still_cells.specs.Cells.{sum_of}
use Rattle.still_cells.proofs.byte_sum.Given as goal

abbrev pub invariant-loop-dy : goal.invariant-loop-dy
invariant-loop-dy g l = record {
  sum : l.n ≡ sum_of l.mask l.width l.across l.down l.x l.y l.dy;
  few : l.n ≤ l.dy * (255 * l.across);
}
