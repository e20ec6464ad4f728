-- The scene at whole points: rings whose columns and rows are whole numbers.
use Rattle.std.specs.Prelude.{cond, ◌&&◌, ℕ, ◌+◌, ◌-◌, min, eqb}
use Rattle.rules.specs.declared.Ring.{Ring}
use Rattle.rules.specs.declared.Scene.{Scene}
use Rattle.rules.specs.Forms.{Layer, Plane, turns}
use Rattle.rules.specs.Literals.{0·0}
use Rattle.rules.specs.Reading.{at, texel}
use Rattle.rules.specs.Scene.{lifted, gathered}
use Rattle.layer_lent.specs.declared.Plan.{Plan}
use Rattle.layer_lent.specs.Lent.{lay, Held}
use Rattle.scene_whole.specs.declared.Band.{Band}

-- x a radius back, where it is, or a radius on, held to 0 .. size - 1
abbrev pub held_at : (x k radius size : ℕ) → ℕ
held_at x k radius size = cond (eqb k 0) (x - radius) (cond (eqb k 1) x (min (x + radius) (size - 1)))

-- the scene at a pixel, without filling
unfoldable pub seen : Layer → (plane : ℕ) → (raw : Plane) → (x y : ℕ) → Scene
seen l plane raw x y = lifted (at raw x y) (texel l plane x y)

-- a ring with point k of its row `down` more, which lies in this row of the plane
unfoldable pub gathered_on : Layer → (plane : ℕ) → (raw : Plane) → (width x row radius down k : ℕ) → Ring → Ring
gathered_on l plane raw width x row radius down k r =
    cond (eqb down 1 && eqb k 1) r (gathered (seen l plane raw (held_at x k radius width) row) r)

-- with the first points of that row
unfoldable pub row_ring : Layer → (plane : ℕ) → (raw : Plane) → (width x row radius down points : ℕ) → Ring → Ring
row_ring l plane raw width x row radius down = turns (gathered_on l plane raw width x row radius down)

-- the same of a band
abbrev pub point_on : Plan → Held → (raw : Plane) → Band → (k : ℕ) → Ring → Ring
point_on p held raw b k r = gathered_on (lay p.shape held) p.shape.plane raw p.across b.x b.row b.radius b.down k r

abbrev pub band_on : Plan → Held → (raw : Plane) → Band → Ring → Ring
band_on p held raw b r = row_ring (lay p.shape held) p.shape.plane raw p.across b.x b.row b.radius b.down 3 r

-- the first rows of a ring
unfoldable pub whole_ring : Layer → (plane : ℕ) → (raw : Plane) → (size : ℕ × ℕ) → (x y radius rows : ℕ) → Ring
whole_ring l plane raw size x y radius rows =
    turns (λ down. row_ring l plane raw size.0 x (held_at y down radius size.1) radius down 3) rows (record { total = 0·0; count = 0·0 })
