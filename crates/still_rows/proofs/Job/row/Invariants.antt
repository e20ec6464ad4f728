-- The invariant of `still_rows::Job::row`: the first x pixels are written.
use Rattle.still_pass.specs.Pass.{RowPainted}
use Rattle.still_rows.specs.Rows.{ruled}
use Rattle.still_rows.proofs.Job.row.Given as goal

abbrev pub invariant-loop-x : goal.invariant-loop-x
invariant-loop-x g l =
    let s = l.self in
    RowPainted (ruled (g.W.Work.writes s.work) (g.W.Work.byte s.work) s.mask.now s.numbers (g.C.Cells.across s.steps) (g.C.Cells.down s.steps)) s.numbers.output_pitch l.y l.x l.initial.output l.output
