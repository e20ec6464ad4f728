-- The stored numbers of a pixel, as whole numbers: what their readers ask and give.
use Rattle.std.specs.Prelude.{◌≡◌, List, ℕ, ◌+◌, ◌*◌, ◌≤◌, ◌<◌, ℤ, pos, nat_abs, length, get_or, Float}
use Rattle.rules.specs.Forms.{turns}
use Rattle.rules.specs.Literals.{0·0, 4096·0}
use Rattle.rules.specs.Float.{◌⊕◌, ◌⊗◌, ◌⊘◌, float, signed}
use Rattle.rules.specs.Reading.{texel}
use Rattle.layer_lent.specs.declared.Plan.{Plan}
use Rattle.layer_lent.specs.Lent.{holding}

-- a row of gains of a pixel lies within the slice
pub record RowFits (luma : List ℤ) (row pitch x span : ℕ) : Type 0 where
  pub low : row ≤ 65536
  pub narrow : pitch ≤ 65536
  pub small : span ≤ 4
  pub left : x ≤ 4096
  pub inside : row * pitch + (x * span + span) ≤ length luma

-- a total with the number at place k added
pub record Added (luma : List ℤ) (k : ℕ) (total r : ℤ) : Type 0 where
  pub is : signed r ≡ signed total ⊕ signed (get_or luma k (pos 0))
  pub small : nat_abs r ≤ nat_abs total + 32768
  pub number : nat_abs (get_or luma k (pos 0)) ≤ 32768

-- the first n gains of such a row, added to a total, as floats
unfoldable pub row_total : List ℤ → (row pitch x span n : ℕ) → Float → Float
row_total luma row pitch x span = turns (λ dx t. t ⊕ signed (get_or luma (row * pitch + (x * span + dx)) (pos 0)))

-- the first rows of a pixel's gains
unfoldable pub block_total : List ℤ → (pitch span x y rows : ℕ) → Float
block_total luma pitch span x y rows = turns (λ dy. row_total luma (y * span + dy) pitch x span span) rows 0·0

-- the same as whole numbers, of numbers of 16 bits
pub record RowSummed (luma : List ℤ) (row pitch x span n : ℕ) (total r : ℤ) : Type 0 where
  pub is : signed r ≡ row_total luma row pitch x span n (signed total)
  pub small : nat_abs r ≤ nat_abs total + n * 32768
  pub number : (dx : ℕ) → dx < n → nat_abs (get_or luma (row * pitch + (x * span + dx)) (pos 0)) ≤ 32768

pub record BlockSummed (luma : List ℤ) (pitch span x y rows : ℕ) (r : ℤ) : Type 0 where
  pub is : signed r ≡ block_total luma pitch span x y rows
  pub small : nat_abs r ≤ rows * 131072
  pub number : (dx dy : ℕ) → dx < span → dy < rows → nat_abs (get_or luma ((y * span + dy) * pitch + (x * span + dx)) (pos 0)) ≤ 32768

-- a gain, of the whole total of span² stored gains
abbrev pub gain_by : (span : ℕ) → (total : ℤ) → Float
gain_by span total = signed total ⊘ (float (span * span) ⊗ 4096·0)

-- r is the total of a pixel's stored gains, whatever the chroma slices hold
pub record Summed (p : Plan) (luma : List ℤ) (x y : ℕ) (r : ℤ) : Type 0 where
  pub is : (first second : List ℤ) → (texel (holding p.shape luma first second) p.shape.plane x y).gain ≡ gain_by p.span r
  pub small : nat_abs r ≤ 524288
