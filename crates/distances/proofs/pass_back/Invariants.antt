-- The rows from row y on are passed.
use Rattle.std.proofs.Common.{◌*◌}
use Rattle.rules.specs.Distances.{whole}
use Rattle.distances.specs.Pass.{Passed, Back}
use Rattle.distances.proofs.pass_back.Given as goal

abbrev pub invariant-loop-y : goal.invariant-loop-y
invariant-loop-y l =
    let n = whole l.initial.cells l.width in
    Passed (Back l.width n n) (Back l.width n (l.y * l.width)) l.width l.initial.cells l.cells
