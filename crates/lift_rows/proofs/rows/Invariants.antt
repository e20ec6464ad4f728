-- The invariant of `lift_rows::rows`: the first y rows are done.
use mathlib.Core.Path.{◌≡◌}
use lib.ListN.{length}
use Rattle.plane.specs.Done.{RowsDone}
use Rattle.lift_pixel.specs.Works.{rule_of}
use Rattle.lift_rows.proofs.rows.Given as goal

abbrev pub invariant-loop-y : goal.invariant-loop-y
invariant-loop-y g l =
    record {
      done : RowsDone (rule_of (g.W.Work.byte l.work) (g.W.Over.plan l.work).shape (g.W.Over.held l.work)) (g.W.Over.plan l.work).across l.y
          (g.W.Over.plan l.work).shape.output_pitch l.initial.output l.output l.count;
      long : length l.output ≡ length l.initial.output;
    }
