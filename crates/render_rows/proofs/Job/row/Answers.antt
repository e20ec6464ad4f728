-- What is left to answer of `render_rows::Job::row`'s goals.
use mathlib.Core.Path.{◌∙◌}
use Rattle.motion.proofs.Fields.{same_rows}
use Rattle.render_rows.proofs.Job.row.Goals as goal

pub cells-requires : goal.cells-requires
cells-requires g c =
    let m = c.args.self.now.motion in
    let rows = c.row_taps-down.ensures in
    record {
      room = c.requires;
      holds = record {
        rows = record { is = rows.is ∙ same_rows m.fields m.lattice.grid m.lattice.ratio c.args.y; first_in = rows.first_in; second_in = rows.second_in };
        holds = c.around-carried.ensures.holds;
      };
    }
