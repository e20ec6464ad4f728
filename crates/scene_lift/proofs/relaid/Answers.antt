-- `scene_lift::relaid` meets its contract. Assumes nothing.
use lib.Ieee.{neg}
use Rattle.rules.specs.Literals.{0·2, 2·5}
use Rattle.rules.specs.Float.{◌⊕◌, ◌⊖◌, ◌⊗◌, ◌≺◌, ◌≼◌, mix, median}
use Rattle.rules.specs.Scene.{lift}
use Rattle.rules.specs.Unpeel.{relaid}
use Rattle.scene_lift.proofs.Sides.{weak_sides, near_sides, picked}
use Rattle.scene_lift.proofs.relaid.Goals as goal

pub returns : goal.returns
unfolding relaid
returns c =
    let a = c.args in
    let g = a.model.gain in
    let d = a.first ⊖ a.second in
    let again = g ⊗ median a.old (lift a.first a.model) (lift a.second a.model) ⊕ a.model.offset in
    rw (
      c.select_unpredictable-2.ensures,
      c.select_unpredictable.ensures,
      c.select_unpredictable-apart.ensures,
      c.select_unpredictable-below.ensures,
      c.median-middle.ensures,
      c.lift-2.ensures,
      c.lift.ensures,
      c.mix-mixed.ensures,
      weak_sides g,
      near_sides d,
    )
    (picked (g ≺ 0·2) (neg g ≺ 0·2) (d ≼ 2·5) (neg d ≼ 2·5) (mix a.first a.second a.time) again)
