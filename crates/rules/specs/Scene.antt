-- "Scene": what lies under the layer at a point.
use Rattle.std.specs.Prelude.{◌/◌, ◌%◌}
use Rattle.rules.specs.Words.{Bool, true, false, cond, ℕ, eqb, sub_ℕ, Float, Model, Ring, Scene, Lifted, Raw}
use Rattle.rules.specs.Literals.{0·0, 0·2, 1·0, 4·0, 255·0}
use Rattle.rules.specs.Float.{◌⊕◌, ◌⊖◌, ◌⊗◌, ◌⊘◌, ◌≺◌, ◌≼◌, float, signed, abs, clamp}
use Rattle.rules.specs.Forms.{Plane, Layer, plane_ratio, plane_size, turns}
use Rattle.rules.specs.Reading.{model_at, sample, held_to}

-- a scene value's float
abbrev pub value : Scene → Float
value (Lifted v) = v
value (Raw v) = v

-- whether it is lifted
abbrev pub is_lifted : Scene → Bool
is_lifted (Lifted v) = true
is_lifted (Raw v) = false

-- "(sample-offset)/gain held to 0..255"
abbrev pub lift : (sample : Float) → Model → Float
lift sample m = clamp ((sample ⊖ m.offset) ⊘ m.gain) 0·0 255·0

-- "where |gain| is at least 0.2f32" lifted, else raw
unfoldable pub lifted : (sample : Float) → Model → Scene
lifted sample m = cond (0·2 ≼ abs m.gain) (Lifted (lift sample m)) (Raw sample)

-- the Rust's `under`: the scene value at a point, without filling
unfoldable pub under : Layer → (plane : ℕ) → (raw : Plane) → (x y : Float) → Scene
under l plane raw x y = lifted (sample raw x y (plane_size l plane)) (model_at l plane x y)

-- -1.0, 0.0 or 1.0 for 0, 1 or 2
abbrev pub sign : ℕ → Float
sign k = signed (sub_ℕ k 1)

-- a ring with one value more, if it is lifted
unfoldable pub gathered : Scene → Ring → Ring
gathered (Lifted v) r = record { total = r.total ⊕ v; count = r.count ⊕ 1·0 }
gathered (Raw v) r = r

-- point `side` of a ring, row by row; 4 is the middle and no point of it
unfoldable pub point : Layer → (plane : ℕ) → (raw : Plane) → (x y radius : Float) → (side : ℕ) → Scene
point l plane raw x y radius side =
    let size = plane_size l plane in
    under l plane raw (held_to (x ⊕ sign (side % 3) ⊗ radius) size.0) (held_to (y ⊕ sign (side / 3) ⊗ radius) size.1)

-- a ring with point `side` in it
unfoldable pub stepped : Layer → (plane : ℕ) → (raw : Plane) → (x y radius : Float) → (side : ℕ) → Ring → Ring
stepped l plane raw x y radius side r = cond (eqb side 4) r (gathered (point l plane raw x y radius side) r)

-- "eight points at 1, 2, then 3 times 4/ratio"
unfoldable pub ring : Layer → (plane : ℕ) → (raw : Plane) → (x y : Float) → (times : ℕ) → Ring
ring l plane raw x y times =
    let radius = 4·0 ⊘ float (plane_ratio l plane) ⊗ float times in
    turns (stepped l plane raw x y radius) 9 (record { total = 0·0; count = 0·0 })

-- "the mean of the lifted ones", or else the other
unfoldable pub mean_or : Ring → Scene → Scene
mean_or r other = cond (0·0 ≺ r.count) (Lifted (r.total ⊘ r.count)) other

-- "the first ring with any; else the raw sample"
unfoldable pub filled : Layer → (plane : ℕ) → (raw : Plane) → (x y : Float) → Scene → Scene
filled l plane raw x y (Lifted v) = Lifted v
filled l plane raw x y (Raw v) =
    let r = ring l plane raw x y in
    mean_or (r 1) (mean_or (r 2) (mean_or (r 3) (Raw v)))

-- the Rust's `scene`
unfoldable pub scene : Layer → (plane : ℕ) → (raw : Plane) → (x y : Float) → (fill : Bool) → Scene
scene l plane raw x y fill =
    let s = under l plane raw x y in
    cond fill (filled l plane raw x y s) s
