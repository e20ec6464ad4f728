-- The kept bytes and the cells are those of the rows before y.
use Rattle.std.proofs.Common.{◌≡◌, List, ℕ, ◌*◌}
use Rattle.rules.specs.Forms.{scan}
use Rattle.rules.specs.Assembly.{model_slice}
use Rattle.fit_keep.specs.Pass.{step_at}
use Rattle.fit_keep.proofs.keep_rows.Given as goal

abbrev pub invariant-loop-y : goal.invariant-loop-y
invariant-loop-y l =
    let r = l.rough in
    ◌≡◌ {A = List ℕ × List ℕ} (l.kept, l.cover) (scan (step_at (model_slice r.models.now (r.width * r.height)) (r.width, r.height)) (r.width, l.y) (l.initial.kept, l.initial.cover))
