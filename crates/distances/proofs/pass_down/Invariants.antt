-- The rows before row y are passed.
use Rattle.std.proofs.Common.{◌*◌}
use Rattle.distances.specs.Pass.{Passed, Down}
use Rattle.distances.proofs.pass_down.Given as goal

abbrev pub invariant-loop-y : goal.invariant-loop-y
invariant-loop-y l = Passed (Down l.width 0) (Down l.width (l.y * l.width)) l.width l.initial.cells l.cells
