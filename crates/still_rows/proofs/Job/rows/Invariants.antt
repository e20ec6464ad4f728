-- The invariant of `still_rows::Job::rows`: the first y rows are written.
use Rattle.still_pass.specs.Pass.{RowsPainted}
use Rattle.still_rows.specs.Rows.{ruled}
use Rattle.still_rows.proofs.Job.rows.Given as goal

abbrev pub invariant-loop-y : goal.invariant-loop-y
invariant-loop-y g l =
    let s = l.self in
    RowsPainted (ruled (g.W.Work.writes s.work) (g.W.Work.byte s.work) s.mask.now s.numbers (g.C.Cells.across s.steps) (g.C.Cells.down s.steps)) s.numbers.output_pitch s.numbers.width l.y l.initial.output l.output
