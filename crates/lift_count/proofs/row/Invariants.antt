-- The invariant of `lift_count::row`: the row is counted up to the cells that are still ahead.
use mathlib.Core.Path.{◌≡◌}
use Rattle.layer_lent.specs.Lent.{lay}
use Rattle.lift_rows.specs.Stretches.{column}
use Rattle.lift_count.specs.Counts.{RowCounted}
use Rattle.lift_count.proofs.row.Given as goal

abbrev pub invariant-loop-stretch : goal.invariant-loop-stretch
invariant-loop-stretch g l =
    let s = l.fn.sheet in
    record {
      over : l.stretch-iterator.over ≡ s;
      y : l.stretch-iterator.y ≡ l.y;
      counted : RowCounted (lay s.plan.shape (g.L.Lent.held s.layer)) s.plan.shape.plane l.y (column s.plan l.stretch-iterator.cell) l.count l.counted;
    }
