-- "Distances": the chessboard distance transform of Rosenfeld and Pfaltz.
use Rattle.rules.specs.Words.{cond, List, ℕ, zero, suc, ltb, length, get_or}
use Rattle.std.specs.Prelude.{min, max, ◌+◌, ◌*◌, ◌/◌, ◌%◌}
use Rattle.rules.specs.Forms.{apart, tabulate, leaves}
use Rattle.rules.specs.Calls.{DistancesCall}
use Rattle.rules.specs.Refusals.{distances_refusal}

-- the "chessboard distance" from cell i to cell j, in rows of this width
abbrev pub chess : (width i j : ℕ) → ℕ
chess width i j = max (apart (i % width) (j % width)) (apart (i / width) (j / width))

-- the least of 255 and of f 0, f 1, up to f (n - 1)
unfoldable pub least : (ℕ → ℕ) → (n : ℕ) → ℕ
least f zero = 255
least f (suc n) = min (least f n) (f n)

-- how many of the cells stand in "the complete rows of the given width"
abbrev pub whole : List ℕ → (width : ℕ) → ℕ
whole old width = length old / width * width

-- "min(255, least of old cell plus chessboard distance)"
unfoldable pub nearest_to : (old : List ℕ) → (width cell : ℕ) → ℕ
nearest_to old width cell = least (λ j. get_or old j 0 + chess width cell j) (whole old width)

-- each cell of the complete rows so; "A tail stays."
unfoldable pub distances : List ℕ → (width : ℕ) → List ℕ
distances old width =
    tabulate (length old) (λ k. cond (ltb k (whole old width)) (nearest_to old width k) (get_or old k 0))

-- what it leaves in the cells
abbrev pub distances_leaves : DistancesCall → List ℕ
distances_leaves c = leaves (distances_refusal c) (distances c.cells c.width) c.cells
