-- What the readers of a byte plane ask and give.
use Rattle.std.specs.Prelude.{◌≡◌, List, ℕ, ◌+◌, ◌-◌, ◌*◌, ◌≤◌, ◌<◌, length, Float}
use Rattle.rules.specs.declared.Taps.{Taps}
use Rattle.rules.specs.Forms.{Plane}
use Rattle.rules.specs.Float.{cut, mix}
use Rattle.rules.specs.Reading.{after, fraction, at, held_to}
use Rattle.calls.specs.Lent.{plane_of}
use Rattle.sample.specs.declared.View.{View}

-- a view's plane
abbrev pub plane_by : View → Plane
plane_by v = plane_of v.bytes.now v.pitch

-- a byte plane of this width and height
pub record PlaneFits (raw : List ℕ) (pitch width height : ℕ) : Type 0 where
  pub wide : (1 ≤ width) × (width ≤ 4096)
  pub tall : (1 ≤ height) × (height ≤ 4096)
  pub apart : (width ≤ pitch) × (pitch ≤ 65536)
  pub long : (height - 1) * pitch + width ≤ length raw

-- a coordinate held to a side of this size
pub record Held (x : Float) (size : ℕ) (r : Float) : Type 0 where
  pub is : r ≡ held_to x size
  pub within : cut r < size

-- the two entries around a point, and the share of the second
abbrev pub around : (x : Float) → (size : ℕ) → Taps
around x size = record { first = cut x; second = after (cut x) size; share = fraction x }

-- these two entries, of a side of this size
pub record Within (t : Taps) (size : ℕ) (r : Taps) : Type 0 where
  pub is : r ≡ t
  pub first_in : r.first < size
  pub second_in : r.second < size

-- a row of a plane between two of its columns
unfoldable pub sampled_row : Plane → (across : Taps) → (y : ℕ) → Float
sampled_row p across y = mix (at p across.first y) (at p across.second y) across.share

-- and between two rows
unfoldable pub sampled_at : Plane → (across down : Taps) → Float
sampled_at p across down = mix (sampled_row p across down.first) (sampled_row p across down.second) down.share
