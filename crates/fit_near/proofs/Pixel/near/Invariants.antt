-- The count is how many of the neighbours before `side` are set.
use Rattle.std.proofs.Common.{◌≡◌, ◌≤◌, ◌*◌}
use Rattle.rules.specs.Assembly.{model_slice}
use Rattle.fit_near.specs.Verdict.{near_below}
use Rattle.fit_near.proofs.Pixel.near.Given as goal

abbrev pub invariant-loop-side : goal.invariant-loop-side
invariant-loop-side l =
    let r = l.self.rough in record {
      counted : l.count ≡ near_below (model_slice r.models.now (r.width * r.height)) (r.width, r.height) l.self.x l.self.y l.side;
      few : l.count ≤ l.side;
    }
