-- The invariant of `lift_count::run`: the stretch is counted up to x, and from 0.
use Prim.Native.Nat.{◌+◌}
use Rattle.lift_count.specs.Counts.{PartCounted}
use Rattle.lift_count.proofs.run.Given as goal

abbrev pub invariant-loop-x : goal.invariant-loop-x
invariant-loop-x g l =
    let s = l.fn.stretch in
    PartCounted s.over.plan (g.L.Lent.held s.over.layer) s.y s.from l.x l.fn.count (l.fn.count + l.more)
