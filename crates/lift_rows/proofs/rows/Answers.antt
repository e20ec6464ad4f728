-- What is left to answer of `lift_rows::rows`'s goals.
use mathlib.Core.Path.{refl, ◌∙◌}
use native.Mathlib.Omega.{arith}
use Rattle.plane.proofs.Laws.{rows_none, rows_more}
use Rattle.lift_rows.proofs.Cells.{row_in}
use Rattle.lift_rows.proofs.rows.Goals as goal

pub loop-y-init : goal.loop-y-init
loop-y-init g c = record { done = rows_none _ _ _ _; long = refl }

pub row-count-requires : goal.row-count-requires
row-count-requires g c =
    let p = g.W.Over.plan c.args.work in
    let h = (g.met.W.Over.sound c.args.work).planned in
    let asks = c.requires in
    let at-loop = c.loop-y in
    let below = rw c.sheet-y-end.ensures.plan at c.loop-y-test.true in
    let room = row_in at-loop.y p.down p.shape.output_pitch p.across _ below asks.long in
    record {
      above = below;
      narrow = asks.apart.1;
      room = omega (arith, room, at-loop.invariant.long);
      few = omega (arith, at-loop.invariant.done.few, below, h.tall.1);
    }

pub loop-y-preserved : goal.loop-y-preserved
loop-y-preserved g c =
    let inv = c.loop-y.invariant in
    record {
      done = rows_more (g.met.W.Over.sound c.args.work).planned.wide.1 inv.done c.row-count.ensures;
      long = c.row-count.auto.output ∙ inv.long;
    }
