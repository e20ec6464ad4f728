-- Figures of the cell lookup (02): pixels on either side of a cell's borders, in every plane and ratio.
use Rattle.std.specs.Prelude.{◌≡◌, List, [], ◌∷◌, ◌++◌, ℕ, ◌-◌, ◌*◌, ◌/◌, ℤ, pos, replicate}
use Rattle.rules.specs.Forms.{Layer}
use Rattle.rules.specs.Reading.{distance}
use Rattle.rules.specs.Keeping.{cell_of}

-- 16 by 16 luma pixels, so two by two cells: 10 and 11, and below them 20 and 21
abbrev pub four_cells : (ratio : ℕ) → Layer
four_cells ratio =
    let wide = 16 / ratio in
    record {
      luma = [];
      chroma = ([], replicate (wide * wide) (pos 0) ++ pos 10 ∷ pos 11 ∷ replicate (wide - 2) (pos 0) ++ pos 20 ∷ pos 21 ∷ []);
      pitch = (16, wide);
      size = (16, 16);
      ratio = ratio;
    }

-- the distances at the last pixel of the first cell, right of it, below it, and at the last pixel of all
abbrev pub at_borders : Layer → (plane side : ℕ) → List ℤ
at_borders l plane side =
    distance l plane (side - 1) (side - 1) ∷ distance l plane side (side - 1)
    ∷ distance l plane (side - 1) side ∷ distance l plane (2 * side - 1) (2 * side - 1) ∷ []

-- each of these pixels finds its own cell
abbrev pub OwnCells : (ratio plane side : ℕ) → Type 0
OwnCells ratio plane side = at_borders (four_cells ratio) plane side ≡ pos 10 ∷ pos 11 ∷ pos 20 ∷ pos 21 ∷ []

-- "the cell side, 8, 4 or 2": 8 in luma, and in chroma by the ratio
abbrev pub Sides : Type 0
Sides =
    OwnCells 1 0 8 × OwnCells 2 0 8 × OwnCells 4 0 8
    × OwnCells 1 1 8 × OwnCells 2 1 4 × OwnCells 4 1 2
    × OwnCells 1 2 8 × OwnCells 2 2 4 × OwnCells 4 2 2

-- "both cut", where a cell is marked too: of 17 by 9 luma pixels, so three by two cells, the pixels at (7, 7),
-- (8, 7), (16, 7), (7, 8) and (16, 8)
abbrev pub MarkedCell : Type 0
MarkedCell =
    (cell_of 17 126 ≡ 0) × (cell_of 17 127 ≡ 1) × (cell_of 17 135 ≡ 2) × (cell_of 17 143 ≡ 3) × (cell_of 17 152 ≡ 5)
