-- What is left to answer of `render_rows::Job::rows`'s goals.
use mathlib.Core.Path.{refl, ◌∙◌}
use native.Mathlib.Omega.{arith}
use Rattle.plane.proofs.Laws.{rows_none, rows_more}
use Rattle.lift_rows.proofs.Cells.{row_in}
use Rattle.render_rows.proofs.Job.rows.Goals as goal

pub loop-y-init : goal.loop-y-init
loop-y-init g c = (rows_none _ _ _ _, refl)

pub row-count-requires : goal.row-count-requires
row-count-requires g c =
    let p = c.args.self.now.frames.first.sheet.plan in
    let inv = c.loop-y.invariant in
    let below = c.loop-y-test.true in
    let h = c.args.self.now.frames.first.sheet.sound.planned in
    let asks = c.requires in
    let room = row_in c.loop-y.y p.down p.shape.output_pitch p.across _ below asks.long in
    record { above = below; narrow = asks.apart.1; room = omega (arith, room, inv.1); few = omega (arith, inv.0.few, below, h.tall) }

pub loop-y-preserved : goal.loop-y-preserved
loop-y-preserved g c =
    let done = c.row-count in
    let inv = c.loop-y.invariant in
    let h = c.args.self.now.frames.first.sheet.sound.planned in
    (rows_more h.wide.1 inv.0 done.ensures, done.auto.output ∙ inv.1)
