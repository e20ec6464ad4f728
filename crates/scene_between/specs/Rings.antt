-- What the loop over a ring's points has gathered.
use Rattle.std.specs.Prelude.{ℕ, Float}
use Rattle.rules.specs.declared.Ring.{Ring}
use Rattle.rules.specs.Forms.{Layer, Plane, turns}
use Rattle.rules.specs.Literals.{0·0}
use Rattle.rules.specs.Scene.{stepped}

-- the first points of a ring
unfoldable pub ring_up_to : Layer → (plane : ℕ) → (raw : Plane) → (x y radius : Float) → (sides : ℕ) → Ring
ring_up_to l plane raw x y radius sides = turns (stepped l plane raw x y radius) sides (record { total = 0·0; count = 0·0 })
