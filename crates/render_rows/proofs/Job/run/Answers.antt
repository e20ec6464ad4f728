-- What is left to answer of `render_rows::Job::run`'s goals.
use mathlib.Core.Path.{◌∙◌}
use native.Mathlib.Nat.{le_antisymm}
use native.Mathlib.Omega.{arith}
use mir.Facts.{to_z-of_z}
use Rattle.render_rows.proofs.Runs.{run_join, part_asks}
use Rattle.render_rows.proofs.Changes.{near_part}
use Rattle.render_rows.proofs.Job.run.Goals as goal

pub pixel-run-requires : goal.pixel-run-requires
pixel-run-requires g c =
    let inv = c.loop-x.invariant in
    let below = c.loop-x-test.true in
    record {
      room = part_asks _ _ _ _ (omega arith) c.requires.room c.loop-x.auto.x (omega arith) inv.1 inv.0.row.few;
      holds = record { rows = c.requires.holds.rows; holds = inv.0.holds };
      near = rw (to_z-of_z c.ranges.distance) (near_part _ _ c.requires.near c.loop-x.auto.x (omega arith));
    }

pub loop-x-preserved : goal.loop-x-preserved
loop-x-preserved g c =
    let done = c.pixel-run in
    let inv = c.loop-x.invariant in (
      record { row = run_join c.loop-x.auto.x (omega arith) inv.0.row done.ensures.row; holds = done.ensures.holds },
      done.auto.output ∙ inv.1,
    )

pub returns : goal.returns
returns g c =
    let at-loop = c.loop-x in
    rw (le_antisymm (at-loop.auto.x-end c.requires.room.ahead) c.loop-x-test.false) at at-loop.invariant.0
