-- `stats_batch::Run::steps` meets its contract. Assumes nothing.
use Rattle.std.proofs.Common.{◌∙◌, arith, length-set}
use Rattle.motion.specs.Moves.{motion_of}
use Rattle.motion.proofs.Fields.{to, around_place, carried_by}
use Rattle.stats_batch.proofs.Laws.{steps_more}
use Rattle.stats_batch.proofs.Run.steps.Goals as goal

pub loop-k-preserved : goal.loop-k-preserved
loop-k-preserved c =
    let l = c.loop-k in
    let lattice = c.args.motion.lattice in
    let carried = to (around_place (motion_of c.args.motion.fields lattice.grid) lattice.ratio _ _ c.taps_at-across.result (c.places-points.ensures.are l.k c.loop-k-test.true) c.taps_at-across.ensures.is) c.carry_to-held.ensures in
    record {
      so_far =
          steps_more _ _ _ _ l.k _ c.steps_of-shift.result _ l.invariant.so_far (omega arith, omega arith, omega arith, omega arith)
          (c.steps_of-shift.ensures ∙ carried_by _ _ _ _ c.carry_to-held.result carried) carried.holds;
      fx = simp length-set l.invariant.fx;
      fy = simp length-set l.invariant.fy;
      bx = simp length-set l.invariant.bx;
      by = simp length-set l.invariant.by;
    }
