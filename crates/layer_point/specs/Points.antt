-- A layer between its pixels: what its readers ask, and the model by the columns and rows around a point.
use Rattle.std.specs.Prelude.{◌≡◌, cond, ◌&&◌, ℕ, ◌<◌}
use Rattle.std.specs.Float.Ieee as Ieee
use Rattle.rules.specs.declared.Model.{Model}
use Rattle.rules.specs.declared.Taps.{Taps}
use Rattle.rules.specs.Literals.{0·0}
use Rattle.rules.specs.Reading.{mix_models}

-- two columns, and two rows, of a plane
pub record Around (width height : ℕ) (across down : Taps) : Type 0 where
  pub left : across.first < width
  pub right : across.second < width
  pub above : down.first < height
  pub below : down.second < height

-- ---- a model at a point, whatever the models of the pixels are

-- the four pixels around a point can be read
pub record Readable (pre : ℕ → ℕ → Type 0) (across down : Taps) : Type 0 where
  pub upper_left : pre across.first down.first
  pub upper_right : pre across.second down.first
  pub lower_left : pre across.first down.second
  pub lower_right : pre across.second down.second

-- what is read of each pixel is its model
abbrev pub Gives : (post : ℕ → ℕ → Model → Type 0) → (t : ℕ → ℕ → Model) → Type 0
Gives post t = (x y : ℕ) → (m : Model) → post x y m → m ≡ t x y

-- a row of models between two columns
unfoldable pub row_of : ((x y : ℕ) → Model) → (across : Taps) → (y : ℕ) → Model
row_of t across y = mix_models (t across.first y) (t across.second y) across.share

-- and between two rows; at a whole point the pixel's own
unfoldable pub point_of : ((x y : ℕ) → Model) → (across down : Taps) → Model
point_of t across down =
    cond (Ieee.eq across.share 0·0 && Ieee.eq down.share 0·0)
    (t across.first down.first)
    (mix_models (row_of t across down.first) (row_of t across down.second) down.share)
