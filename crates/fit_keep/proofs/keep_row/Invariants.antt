-- The kept bytes and the cells are those of the row's pixels before x.
use Rattle.std.proofs.Common.{◌≡◌, List, ℕ, ◌*◌}
use Rattle.rules.specs.Forms.{scan_row}
use Rattle.rules.specs.Assembly.{model_slice}
use Rattle.fit_keep.specs.Pass.{step_at}
use Rattle.fit_keep.proofs.keep_row.Given as goal

abbrev pub invariant-loop-x : goal.invariant-loop-x
invariant-loop-x l =
    let r = l.rough in
    ◌≡◌ {A = List ℕ × List ℕ} (l.kept, l.cover) (scan_row (step_at (model_slice r.models.now (r.width * r.height)) (r.width, r.height)) l.y l.x (l.initial.kept, l.initial.cover))
