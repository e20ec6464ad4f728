-- The invariant of `render_rows::Job::run`: the pixels before x are done, and the run one's columns are held.
use mathlib.Core.Path.{◌≡◌}
use lib.ListN.{length}
use Rattle.render_rows.specs.Jobs.{plan_in, motion_in, rule_in, RunDone}
use Rattle.render_rows.proofs.Job.run.Given as goal

abbrev pub invariant-loop-x : goal.invariant-loop-x
invariant-loop-x g l =
    RunDone (rule_in l.self) (plan_in l.self).shape.output_pitch l.piece.y l.piece.from l.x (motion_in l.self)
    l.self.motion.lattice.ratio l.piece.down l.initial.run.count l.initial.output l.output l.run
    × (length l.output ≡ length l.initial.output)
