-- What a point is filled from, whatever its three rings are.
use Rattle.std.specs.Prelude.{ℕ, zero, suc, ◌≡◌, ◌-◌, ◌≤◌}
use Rattle.rules.specs.declared.Ring.{Ring}
use Rattle.rules.specs.declared.Scene.{Scene}
use Rattle.rules.specs.Scene.{mean_or}

-- the mean of the first with any of the last rings, as many as are left, or else the other
unfoldable pub means : (ring : ℕ → Ring) → (left : ℕ) → Scene → Scene
means ring zero other = other
means ring (suc n) other = mean_or (ring (3 - n)) (means ring n other)

-- what makes three rings makes these
abbrev pub Makes : (made : ℕ → Ring → Type 0) → (ring : ℕ → Ring) → Type 0
Makes made ring = (n : ℕ) → 1 ≤ n → n ≤ 3 → (r : Ring) → made n r → r ≡ ring n
