-- What a value is filled from, ring by ring. Assumes nothing.
use mathlib.Core.Path.{◌≡◌, refl, ◌∙◌}
use Prim.Native.Nat.{ℕ, zero, suc, ◌+◌, ◌-◌, ◌≤◌}
use native.Mathlib.Omega.{arith}
use Rattle.rules.specs.declared.Ring.{Ring}
use Rattle.rules.specs.declared.Scene.{Scene}
use Rattle.rules.specs.Scene.{mean_or}
use Rattle.scene_lift.specs.Means.{means}

means_from : (ring : ℕ → Ring) (times : ℕ) (other : Scene) → 1 ≤ times → times ≤ 3
    → means ring (4 - times) other ≡ mean_or (ring times) (means ring (4 - (times + 1)) other)
unfolding means
means_from ring zero other low high = absurd (omega arith)
means_from ring (suc zero) other low high = refl
means_from ring (suc (suc zero)) other low high = refl
means_from ring (suc (suc (suc zero))) other low high = refl
means_from ring (suc (suc (suc (suc n)))) other low high = absurd (omega arith)

-- by what a ring's mean is, or with the other where it has none
pub means_by : (ring : ℕ → Ring) (times : ℕ) (other : Scene) (r : Ring) (z : Scene) → 1 ≤ times → times ≤ 3
    → r ≡ ring times → mean_or r (means ring (4 - (times + 1)) other) ≡ z → means ring (4 - times) other ≡ z
means_by ring times other r z low high e t = means_from ring times other low high ∙ rw (← e) t
