-- What is left to answer of `render_rows::Job::cells`'s goals.
use mathlib.Core.Path.{◌≡◌, ◌∙◌}
use Prim.Native.Nat.{◌+◌, zero-le, min}
use native.Mathlib.Nat.{le_antisymm}
use native.Mathlib.Omega.{arith}
use Rattle.render_rows.proofs.Runs.{run_join, run_whole}
use Rattle.render_rows.proofs.Changes.{next_begins}
use Rattle.render_rows.proofs.Job.cells.Goals as goal

pub cell_end-requires : goal.cell_end-requires
cell_end-requires g c =
    let h = c.args.self.now.frames.first.sheet.sound.planned in
    record { side = h.cell; inside = c.loop-x-test.true; small = h.wide.1 }

pub cell-run-requires-clause-cell : goal.cell-run-requires-clause-cell
cell-run-requires-clause-cell g c = c.cell_end.ensures.same

pub loop-x-preserved : goal.loop-x-preserved
loop-x-preserved g c =
    let p = c.args.self.now.frames.first.sheet.plan in
    let some = c.args.self.now.frames.first.sheet.sound.planned.small in
    let x = c.loop-x.x in
    let end : min (x + p.side) p.across ≡ x + p.side = omega arith in
    let inv = c.loop-x.invariant in
    let done = rw (c.cell_end.ensures.ends, inv.2, end) at c.cell-run.ensures in (
      record { row = run_join zero-le (omega arith) inv.0.row done.row; holds = done.holds },
      omega arith,
      next_begins p.side x (omega (arith, some)) inv.2,
      c.cell-run.auto.output ∙ inv.3,
    )

-- the last cell
pub returns-2 : goal.returns-2
returns-2 g c =
    let p = c.args.self.now.frames.first.sheet.plan in
    let x = c.loop-x.x in
    let end : min (x + p.side) p.across ≡ p.across = omega arith in
    let inv = c.loop-x.invariant in
    let done = rw (c.cell_end.ensures.ends, inv.2, end) at c.cell-run.ensures in
    run_whole (run_join zero-le inv.1 inv.0.row done.row)

pub returns : goal.returns
returns g c =
    let at-loop = c.loop-x in
    rw (le_antisymm at-loop.invariant.1 c.loop-x-test.false) at (run_whole at-loop.invariant.0.row)
