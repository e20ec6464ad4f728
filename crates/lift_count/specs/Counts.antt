-- What counting asks, and what it gives.
use Rattle.std.specs.Prelude.{◌≡◌, ℕ, ◌+◌, ◌-◌, ◌*◌, ◌≤◌, ◌<◌}
use Rattle.rules.specs.Forms.{Plane, Frames, Layer, Rule, plane_size, scan_row, tally, counted}
use Rattle.rules.specs.declared.Model.{Model}
use Rattle.rules.specs.Reading.{texel}
use Rattle.rules.specs.Peel.{layered, peel_rule}
use Rattle.rules.specs.Unpeel.{unpeel_rule}
use Rattle.layer_lent.specs.declared.Plan.{Plan}
use Rattle.layer_lent.specs.Lent.{lay, Held}

-- what a closure may be asked of each pixel of a part of a row, and that it reads the pixel's model
abbrev pub Reads : Plan → Held → (y from to : ℕ) → (pre : ℕ → Type 0) → (post : ℕ → Model → Type 0) → Type 0
Reads p held y from to pre post =
    (x : ℕ) → from ≤ x → x < to → pre x × ((m : Model) → post x m → m ≡ texel (lay p.shape held) p.shape.plane x y)

-- the pixels that peel and unpeel write, whatever they write there
abbrev pub layered_rule : Layer → (plane : ℕ) → Rule
layered_rule l plane = record { writes = layered l plane; byte = λ x y old. old }

-- a row that was counted up to a column is counted up to another
pub record CountedOn (l : Layer) (plane y from to count r : ℕ) : Type 0 where
  pub on : (start : ℕ) → count ≡ scan_row (tally (layered_rule l plane)) y from start → r ≡ scan_row (tally (layered_rule l plane)) y to start
  pub few : r ≤ count + (to - from)

-- of a sheet
abbrev pub PartCounted : Plan → Held → (y from to count r : ℕ) → Type 0
PartCounted p held y from to count r = CountedOn (lay p.shape held) p.shape.plane y from to count r

-- the first pixels of a row, with those counted before
pub record RowCounted (l : Layer) (plane y width count r : ℕ) : Type 0 where
  pub tally_is : r ≡ scan_row (tally (layered_rule l plane)) y width count
  pub few : r ≤ count + width

-- the first rows
pub record RowsCounted (l : Layer) (plane width height r : ℕ) : Type 0 where
  pub tally_is : r ≡ counted (layered_rule l plane) (width, height)
  pub few : r ≤ height * 4096

-- the pixels of a plane: the count of peel, over any bytes, and of unpeel, over any frames
pub record Counts (l : Layer) (plane r : ℕ) : Type 0 where
  pub peeled : (raw : Plane) → r ≡ counted (peel_rule l plane raw) (plane_size l plane)
  pub unpeeled : (frames : Frames) → r ≡ counted (unpeel_rule l plane frames) (plane_size l plane)
