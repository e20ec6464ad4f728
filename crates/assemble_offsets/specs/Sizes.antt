-- What the passes over a model slice ask, and the totals as they are summed.
use Rattle.std.specs.Prelude.{◌≡◌, List, ℕ, ◌+◌, ◌*◌, ◌/◌, ◌≤◌, ◌<◌, ℤ, pos, nat_abs, ◌+ℤ◌, length, get_or, Float}
use Rattle.std.specs.Float.{nan}
use Rattle.rules.specs.Forms.{turns}
use Rattle.rules.specs.Float.{◌⊘◌}
use Rattle.rules.specs.Domain.{models_length}
use Rattle.rules.specs.Assembly.{stored_offset}
use Rattle.assemble_offsets.specs.declared.Sizes.{Sizes}

-- sizes and a ratio that are not refused
pub record Formed (sizes : Sizes) : Type 0 where
  pub wide : (1 ≤ sizes.width) × (sizes.width ≤ 4096)
  pub tall : (1 ≤ sizes.height) × (sizes.height ≤ 4096)
  pub ratio : (1 ≤ sizes.ratio) × (sizes.ratio ≤ 4)
  pub across_is : sizes.chroma_width ≡ sizes.width / sizes.ratio
  pub down_is : sizes.chroma_height ≡ sizes.height / sizes.ratio
  pub across : sizes.chroma_width * sizes.ratio ≡ sizes.width
  pub down : sizes.chroma_height * sizes.ratio ≡ sizes.height
  pub narrow : (1 ≤ sizes.chroma_width) × (sizes.chroma_width ≤ 4096)
  pub low : (1 ≤ sizes.chroma_height) × (sizes.chroma_height ≤ 4096)

-- a model slice for them
abbrev pub ModelsLong : List Float → Sizes → Type 0
ModelsLong models sizes = length models ≡ models_length (sizes.width, sizes.height)

-- what luma pixel `at` adds to a total of plane 1 or 2
unfoldable pub term_of : List Float → (plane : ℕ) → (share : Float) → (at : ℕ) → ℤ
term_of models plane share at = (stored_offset (get_or models (at * 4 + (1 + plane)) nan ⊘ share)).0

-- the first terms of a row from luma pixel `place` on, added to a total
unfoldable pub row_total : List Float → (plane : ℕ) → (share : Float) → (place n : ℕ) → ℤ → ℤ
row_total models plane share place n = turns (λ dx t. t +ℤ term_of models plane share (place + dx)) n

-- a row of a block lies within the slice, and its total within 32 bits
pub record RowFits (models : List Float) (place ratio plane : ℕ) (total : ℤ) : Type 0 where
  pub inside : (place + ratio) * 4 ≤ length models
  pub plane_is : (1 ≤ plane) × (plane ≤ 2)
  pub small : ratio ≤ 4
  pub few : nat_abs total ≤ 4 * (4 * 32768)

-- a chroma pixel, and the plane 1 or 2
pub record Block (sizes : Sizes) (plane x y : ℕ) : Type 0 where
  pub plane_is : (1 ≤ plane) × (plane ≤ 2)
  pub left : x < sizes.chroma_width
  pub above : y < sizes.chroma_height

-- the first rows of the block of chroma pixel (x, y)
unfoldable pub block_total : List Float → (plane : ℕ) → (share : Float) → (width ratio x y n : ℕ) → ℤ
block_total models plane share width ratio x y n =
    turns (λ dy. row_total models plane share ((y * ratio + dy) * width + x * ratio) ratio) n (pos 0)
