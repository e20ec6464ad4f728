-- Cells that the transform does not alter.
use Rattle.std.specs.Prelude.{List, ℕ, ◌+◌, ◌≤◌, ◌<◌, get_or}
use Rattle.rules.specs.Distances.{chess, whole}

-- any two touching cells of the complete rows, corners included, differ by at most 1: each is at most 1 above the other
abbrev pub Level : List ℕ → (width : ℕ) → Type 0
Level cells width =
    (i j : ℕ) → i < whole cells width → j < whole cells width → chess width i j ≤ 1 → get_or cells i 0 ≤ get_or cells j 0 + 1
