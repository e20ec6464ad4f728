-- `stats_gather::Task::gather_run` meets its contract. Assumes nothing.
use Rattle.stats_gather.specs.Sums.{pass_of}
use Rattle.stats_gather.proofs.Pixels.{run_is}
use Rattle.stats_gather.proofs.Task.gather_run.Goals as goal

pub returns : goal.returns
returns g c =
    let a = c.args in
    let t = a.self.now in
    let r = a.run in
    let steps = c.steps-shifts.ensures in
    record {
      sums =
          run_is t.pairs g.row.MANY (pass_of t) a.down r.x r.y r.n a.place c.steps-shifts.result c.moved-pb.result c.moved-pa.result
          a.sums.now _ c.requires.started.rows.is steps c.moved-pb.ensures c.moved-pa.ensures c.add_run.ensures;
      holds = steps.holds;
    }
