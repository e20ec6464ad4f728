-- The largest distance of a field is a fold of its numbers. Assumes nothing.
use mathlib.Core.Path.{◌≡◌, refl}
use mathlib.Core.List.{List, [], ◌∷◌}
use Prim.Native.Nat.{ℕ, max}
use Rattle.std.specs.Prelude.{fold}
use Rattle.rules.specs.Forms.{apart}
use Rattle.rules.specs.Render.{farthest}

pub folded : (field : List ℕ) (n : ℕ) → fold (λ m v. max m (apart v 1024)) n field ≡ farthest field n
unfolding farthest
folded [] n = refl
folded (v ∷ field) n = folded field (max n (apart v 1024))
