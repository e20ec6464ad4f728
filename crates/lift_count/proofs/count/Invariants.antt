-- The invariant of `lift_count::count`: the first y rows are counted.
use Rattle.layer_lent.specs.Lent.{lay}
use Rattle.lift_count.specs.Counts.{RowsCounted}
use Rattle.lift_count.proofs.count.Given as goal

abbrev pub invariant-loop-y : goal.invariant-loop-y
invariant-loop-y g l = RowsCounted (lay l.fn.sheet.plan.shape (g.L.Lent.held l.fn.sheet.layer)) l.fn.sheet.plan.shape.plane l.fn.sheet.plan.across l.y l.n
