-- The sum of a pixel's mask cells, as the loops make it, and what they ask.
use Rattle.std.specs.Prelude.{◌≡◌, List, ℕ, ◌+◌, ◌*◌, ◌/◌, ◌≤◌, length, get_or}
use Rattle.rules.specs.Forms.{turns}
use Rattle.still_cells.specs.declared.Numbers.{Numbers}
use Rattle.still_cells.specs.declared.Steps.{Steps}

-- how many cells a pixel of a plane has, by the mask's length and width
abbrev pub steps_of : (mask : List ℕ) → Numbers → Steps
steps_of mask n = record { across = n.mask_width / n.width; down = length mask / (n.mask_width * n.height) }

-- the first n cells of a row of a pixel's cells, added to a total
unfoldable pub row_sum : List ℕ → (row width x across n : ℕ) → ℕ → ℕ
row_sum bytes row width x across = turns (λ dx n. n + get_or bytes (row * width + (x * across + dx)) 0)

-- the first rows of a pixel's cells
unfoldable pub sum_of : List ℕ → (width across down x y rows : ℕ) → ℕ
sum_of bytes width across down x y rows = turns (λ dy. row_sum bytes (y * down + dy) width x across across) rows 0

-- the cells of pixel (x, y) lie within the mask
pub record PixelCells (bytes : List ℕ) (width across down x y : ℕ) : Type 0 where
  pub near : x ≤ 65536
  pub high : y ≤ 65536
  pub some_across : 1 ≤ across
  pub some_down : 1 ≤ down
  pub few_across : across ≤ 8
  pub few_down : down ≤ 8
  pub narrow : width ≤ 65536
  pub left : x * across + across ≤ width
  pub low : y * down + down ≤ 65536
  pub inside : (y * down + down) * width ≤ length bytes

-- the mask has so many cells for each pixel of a plane
pub record PlaneCells (bytes : List ℕ) (width across down : ℕ) (size : ℕ × ℕ) : Type 0 where
  pub narrow : size.0 ≤ 4096
  pub low : size.1 ≤ 4096
  pub some_across : 1 ≤ across
  pub some_down : 1 ≤ down
  pub few_across : across ≤ 8
  pub few_down : down ≤ 8
  pub wide : width ≡ size.0 * across
  pub long : width * size.1 * down ≡ length bytes
