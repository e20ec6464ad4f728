-- The invariant of `render_rows::Job::cells`: the cells before x are done, and the last pixel's columns are held.
use mathlib.Core.Path.{◌≡◌}
use Prim.Native.Nat.{◌-◌, ◌*◌, ◌/◌, ◌≤◌}
use lib.ListN.{length}
use Rattle.render_rows.specs.Jobs.{motion_in, rule_in, RunDone}
use Rattle.render_rows.proofs.Job.cells.Given as goal

abbrev pub invariant-loop-x : goal.invariant-loop-x
invariant-loop-x g l =
    RunDone (rule_in l.self) l.plan.shape.output_pitch l.y 0 l.x (motion_in l.self)
    l.self.motion.lattice.ratio l.down l.initial.run.count l.initial.output l.output l.run
    × (l.x ≤ l.plan.across) × (l.x / l.plan.side * l.plan.side ≡ l.x) × (length l.output ≡ length l.initial.output)

abbrev pub decreases-loop-x : goal.decreases-loop-x
decreases-loop-x g l = l.plan.across - l.x
