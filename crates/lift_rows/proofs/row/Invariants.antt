-- The invariant of `lift_rows::row`: the row is done up to the cells that are still ahead.
use mathlib.Core.Path.{◌≡◌}
use lib.ListN.{length}
use Rattle.plane.specs.Done.{RowDone}
use Rattle.lift_pixel.specs.Works.{rule_of}
use Rattle.lift_rows.specs.Stretches.{column}
use Rattle.lift_rows.proofs.row.Given as goal

abbrev pub invariant-loop-stretch : goal.invariant-loop-stretch
invariant-loop-stretch g l =
    record {
      over : l.stretch-iterator.over ≡ l.fn.work;
      y : l.stretch-iterator.y ≡ l.y;
      done : RowDone (rule_of (g.W.Work.byte l.fn.work) (g.W.Over.plan l.fn.work).shape (g.W.Over.held l.fn.work)) (g.W.Over.plan l.fn.work).shape.output_pitch l.y
          (column (g.W.Over.plan l.fn.work) l.stretch-iterator.cell) l.count l.initial.output l.output l.counted;
      long : length l.output ≡ length l.initial.output;
    }
