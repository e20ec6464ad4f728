-- The answer of mask over any plane of yes and no, and the bytes that have both in two bits.
use Rattle.std.specs.Prelude.{◌≡◌, Bool, ◌&&◌, ◌||◌, cond, List, ℕ, ◌+◌, ◌-◌, ◌*◌, ◌%◌, ◌≤◌, ◌<◌, min, eqb, length, get_or}
use Rattle.still_pass.specs.Table.{RowStored, RowsStored}
use Rattle.still_corner.specs.declared.Column.{Column}

-- ---- a plane of yes and no

-- `full` over any plane
unfoldable pub full_by : (same : (x y : ℕ) → Bool) → (size : ℕ × ℕ) → (x y : ℕ) → Bool
full_by same size x y =
    let right = min x (size.0 - 1) in
    let below = min y (size.1 - 1) in
    same (x - 1) (y - 1) && same right (y - 1) && same (x - 1) below && same right below

-- `still` over any plane
unfoldable pub still_by : (same : (x y : ℕ) → Bool) → (size : ℕ × ℕ) → (x y : ℕ) → ℕ
still_by same size x y =
    let corner = full_by same size in
    cond (corner x y || corner (x + 1) y || corner x (y + 1) || corner (x + 1) (y + 1)) 1 0

-- both: the pixel itself, and the answer in the bit above
abbrev pub both_bits : (same : (x y : ℕ) → Bool) → (size : ℕ × ℕ) → (x y : ℕ) → ℕ
both_bits same size x y = cond (same x y) 1 0 + 2 * still_by same size x y

-- ---- its columns

-- column x of three rows
abbrev pub column_of : (same : (x y : ℕ) → Bool) → (x above y below : ℕ) → Column
column_of same x above y below = record { above = same x above; here = same x y; below = same x below }

-- both bits of a pixel, by its column and those beside it
unfoldable pub mark_of : (left mid right : Column) → ℕ
mark_of left mid right =
    cond mid.here 1 0
    + 2 * cond (
    (left.above && mid.above && left.here && mid.here)
    || (mid.above && right.above && mid.here && right.here)
    || (left.here && mid.here && left.below && mid.below)
    || (mid.here && right.here && mid.below && right.below)) 1 0

-- ---- the bytes that hold it

-- the lowest bit of pixel (x, y)
abbrev pub is_odd : List ℕ → (width x y : ℕ) → Bool
is_odd list width x y = eqb (get_or list (y * width + x) 0 % 2) 1

-- the lowest bits are the plane's
pub record Holds (same : (x y : ℕ) → Bool) (size : ℕ × ℕ) (list : List ℕ) : Type 0 where
  pub odd : (x y : ℕ) → x < size.0 → y < size.1 → is_odd list size.0 x y ≡ same x y

-- the first n pixels of row y have both bits
pub record RowMarked (same : (x y : ℕ) → Bool) (size : ℕ × ℕ) (y n : ℕ) (before after : List ℕ) : Type 0 where
  pub stored : RowStored size.0 (both_bits same size) y n before after
  pub holds : Holds same size after

-- the first n rows have
pub record RowsMarked (same : (x y : ℕ) → Bool) (size : ℕ × ℕ) (n : ℕ) (before after : List ℕ) : Type 0 where
  pub stored : RowsStored size.0 (both_bits same size) n before after
  pub holds : Holds same size after

-- a column of three rows lies within the bytes
pub record ColumnIn (bytes : List ℕ) (width x above y below : ℕ) : Type 0 where
  pub column : x ≤ 65536
  pub first : above ≤ 65536
  pub second : y ≤ 65536
  pub third : below ≤ 65536
  pub narrow : width ≤ 65536
  pub upper : above * width + x < length bytes
  pub middle : y * width + x < length bytes
  pub lower : below * width + x < length bytes
