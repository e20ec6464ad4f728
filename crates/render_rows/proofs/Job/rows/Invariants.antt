-- The invariant of `render_rows::Job::rows`: the first y rows are painted and counted.
use mathlib.Core.Path.{◌≡◌}
use lib.ListN.{length}
use Rattle.plane.specs.Done.{RowsDone}
use Rattle.render_rows.specs.Jobs.{plan_in, rule_in}
use Rattle.render_rows.proofs.Job.rows.Given as goal

abbrev pub invariant-loop-y : goal.invariant-loop-y
invariant-loop-y g l =
    RowsDone (rule_in l.self) (plan_in l.self).across l.y (plan_in l.self).shape.output_pitch l.initial.output l.output l.count
    × (length l.output ≡ length l.initial.output)
