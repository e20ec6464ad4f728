-- What is left to answer of `render_rows::Job::pixel`'s goals.
use mathlib.Core.Path.{◌∙◌}
use Rattle.render_rows.proofs.Runs.{run_one}
use Rattle.render_rows.proofs.Changes.{pixel_is}
use Rattle.render_rows.proofs.Job.pixel.Goals as goal

pub returns : goal.returns
returns g c =
    let a = c.args in
    let e = pixel_is a.self.now a.spot.x a.spot.y _ a.distance a.down
    c.carry-carried.result c.steps_of.result c.timed-steps.result c.requires.near c.requires.holds.rows.is c.carry-carried.ensures
    c.steps_of.ensures c.timed-steps.ensures in
    record {
      row = run_one (c.change-change.ensures ∙ e) (rw c.place-k.ensures at c.stamp-count.ensures);
      holds = c.carry-carried.ensures.holds;
    }
