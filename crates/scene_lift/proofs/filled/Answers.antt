-- `scene_lift::filled` meets its contract. Assumes nothing.
use mathlib.Core.Path.{◌≡◌, sym, ◌∙◌}
use native.Mathlib.Omega.{arith}
use Rattle.scene_lift.specs.Means.{means}
use Rattle.scene_lift.proofs.Means.{means_by}
use Rattle.scene_lift.proofs.filled.Goals as goal

-- Where a ring has any, its mean is what is filled;
-- where it has none, what is filled is what those behind it give.
pub returns-in-Some : goal.returns-in-Some
returns-in-Some g c rings makes =
    let at-loop = c.loop-times in
    let low = at-loop.auto.times in
    let high = c.loop-times-test.true in
    sym (at-loop.invariant rings makes ∙ means_by _ _ _ _ _ low high (makes _ low high _ c.ring.ensures) (c.in-Some.ensures _))

pub loop-times-preserved : goal.loop-times-preserved
loop-times-preserved g c rings makes =
    let at-loop = c.loop-times in
    let low = at-loop.auto.times in
    let high = c.loop-times-test.true in
    at-loop.invariant rings makes ∙ means_by _ _ _ _ _ low high (makes _ low high _ c.ring.ensures) (c.in_default.ensures _)

pub returns : goal.returns
unfolding means
returns g c rings makes =
    let at-loop = c.loop-times in
    let e : at-loop.times ≡ 4 = omega arith in
    sym (rw e at (at-loop.invariant rings makes))
