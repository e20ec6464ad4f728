-- The cells of a layer, as far as they are gone through; and what going through them asks.
use Rattle.std.specs.Prelude.{Bool, not, ℕ, ◌≤◌, ◌<◌}
use Rattle.rules.specs.Forms.{Layer, all, is_number}
use Rattle.rules.specs.Reading.{cell}
use Rattle.layer_lent.specs.declared.Plan.{Plan}

-- the number of this cell is not 0
abbrev pub unmarked : Layer → (x y : ℕ) → Bool
unmarked l x y = not (is_number (cell l x y) 0)

-- none of the first of a row is
abbrev pub row_unmarked : Layer → (y width : ℕ) → Bool
row_unmarked l y width = all width (λ x. unmarked l x y)

-- none of the first rows has one
abbrev pub rows_unmarked : Layer → (width height : ℕ) → Bool
rows_unmarked l width height = all height (λ y. row_unmarked l y width)

-- so many cells of a row
pub record InRow (p : Plan) (y width : ℕ) : Type 0 where
  pub wide : width ≤ p.shape.chroma_pitch
  pub above : y < p.rows

-- so many rows of them
pub record InRows (p : Plan) (width height : ℕ) : Type 0 where
  pub wide : width ≤ p.shape.chroma_pitch
  pub tall : height ≤ p.rows
