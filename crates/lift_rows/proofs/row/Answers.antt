-- What is left to answer of `lift_rows::row`'s goals.
use mathlib.Core.Path.{◌≡◌, refl, ◌∙◌}
use native.Mathlib.Omega.{arith}
use Rattle.plane.proofs.Laws.{row_none}
use Rattle.lift_pixel.specs.Works.{rule_of}
use Rattle.lift_pixel.proofs.Peels.{far_writes}
use Rattle.lift_rows.specs.Stretches.{column}
use Rattle.lift_rows.proofs.Cells.{run_skip}
use Rattle.lift_rows.proofs.row.Goals as goal

pub loop-stretch-init : goal.loop-stretch-init
loop-stretch-init g c =
    let e = c.into_iter-stretch-iterator.ensures.into_iter_gives in
    let of = c.of-stretch-items.ensures in
    let start : column (g.W.Over.plan c.args.work) 0 ≡ 0 = omega arith in
    record { over = rw e of.over; y = rw e of.y; done = rw (e, of.cell, start) (row_none _ _ _ _ _); long = refl }

pub near_run-counted-requires : goal.near_run-counted-requires
near_run-counted-requires g c =
    let asks = c.requires in
    let inv = c.loop-stretch.invariant in
    let s = c.in-Some.ensures.steps in
    let over = s.2.0 ∙ inv.over in
    let part = rw over at c.in-Some.stretch.part in
    let goes = rw (inv.over, inv.y) at s.2.2 in
    let w = (g.met.W.Over.sound c.args.work).planned.wide.1 in
    rw (over, s.2.1 ∙ inv.y)
    (record {
      narrow = asks.narrow;
      room = omega (arith, asks.room, part.within, inv.long);
      few = omega (arith, inv.done.few, asks.few, goes.ahead, part.ahead, part.within, w);
    })

pub loop-stretch-preserved : goal.loop-stretch-preserved
loop-stretch-preserved g c =
    let work = c.args.work in
    let p = g.W.Over.plan work in
    let inv = c.loop-stretch.invariant in
    let s = c.in-Some.ensures.steps in
    let goes = rw (inv.over, inv.y) at s.2.2 in
    let ran = rw (s.2.0 ∙ inv.over, s.2.1 ∙ inv.y) at c.near_run-counted.ensures in
    let skip = run_skip (rule_of (g.W.Work.byte work) p.shape (g.W.Over.held work)) p.shape.output_pitch c.args.y _ _ c.loop-stretch.counted c.loop-stretch.output goes.ahead
    (λ k low high. far_writes _ _ k c.args.y (goes.far k low high)) in
    record {
      over = s.0 ∙ inv.over;
      y = s.1 ∙ inv.y;
      done = rw goes.ends at (ran.on _ _ (skip.on _ _ inv.done));
      long = c.near_run-counted.auto.output ∙ inv.long;
    }

pub returns : goal.returns
returns g c =
    let work = c.args.work in
    let p = g.W.Over.plan work in
    let inv = c.loop-stretch.invariant in
    let far = rw (inv.over, inv.y) at c.in-None.ensures.steps.2 in
    let skip = run_skip (rule_of (g.W.Work.byte work) p.shape (g.W.Over.held work)) p.shape.output_pitch c.args.y (column p c.loop-stretch.stretch-iterator.cell) p.across
    c.loop-stretch.counted c.loop-stretch.output (omega arith) (λ k low high. far_writes _ _ k c.args.y (far k low high)) in
    skip.on _ _ inv.done
