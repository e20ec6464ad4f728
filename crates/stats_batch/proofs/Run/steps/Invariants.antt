-- The invariant of `stats_batch::Run::steps`: the steps of the pixels below k are filled in, and what is carried holds
-- its columns. Assumes nothing.
use Rattle.std.proofs.Common.{◌≡◌, length}
use Rattle.motion.specs.Moves.{motion_of}
use Rattle.stats_batch.specs.Lanes.{Shifted}
use Rattle.stats_batch.proofs.Run.steps.Given as goal

abbrev pub invariant-loop-k : goal.invariant-loop-k
invariant-loop-k l =
    record {
      so_far : Shifted (motion_of l.motion.fields l.lattice.grid) l.lattice.ratio l.down l.fn.self.x l.k (record { fx = l.fx; fy = l.fy; bx = l.bx; by = l.by; held = l.held });
      fx : length l.fx ≡ 32;
      fy : length l.fy ≡ 32;
      bx : length l.bx ≡ 32;
      by : length l.by ≡ 32;
    }
