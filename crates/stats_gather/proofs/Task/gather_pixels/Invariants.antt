-- The invariant of `stats_gather::Task::gather_pixels`: the pixels before x are added, and what is carried holds its
-- columns. Assumes nothing.
use Rattle.std.proofs.Common.{◌≡◌, ◌-◌, min}
use Rattle.motion.specs.Moves.{motion_of, Holds}
use Rattle.stats_gather.specs.Sums.{pass_of, row_added}
use Rattle.stats_gather.proofs.Task.gather_pixels.Given as goal

abbrev pub invariant-loop-x : goal.invariant-loop-x
invariant-loop-x g l =
    record {
      so_far : l.sums ≡ row_added l.self.pairs g.row.MANY (pass_of l.self) l.y l.place (min l.x l.width) l.initial.sums;
      holds : let motion = l.self.motion in Holds (motion_of motion.fields motion.lattice.grid) motion.lattice.ratio l.down l.held;
    }

abbrev pub decreases-loop-x : goal.decreases-loop-x
decreases-loop-x g l = l.width - l.x
