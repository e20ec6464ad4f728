-- What the two passes say of the cells on the way: the first goes from the first cell to the last, the second back. w
-- is the width.
use Rattle.std.specs.Prelude.{◌≡◌, ◌⊎◌, List, ℕ, ◌+◌, ◌*◌, ◌/◌, ◌%◌, ◌≤◌, ◌<◌, min, length, get_or}
use Rattle.rules.specs.Distances.{whole, nearest_to}

-- four places in a slice
pub record Inside (size at left mid right : ℕ) : Type 0 where
  pub own : at < size
  pub first : left < size
  pub second : mid < size
  pub third : right < size

-- the least of cell at and of 1 more than three cells of another row and the one beside it
abbrev pub lowest_of : List ℕ → (at left mid right beside : ℕ) → ℕ
lowest_of cells at left mid right beside =
    min (min (get_or cells at 0) (min (min (get_or cells left 0) (get_or cells right 0)) (get_or cells mid 0) + 1)) (beside + 1)

-- rows y and z of a slice of this size begin at these places
pub record Rows (w size y z row other : ℕ) : Type 0 where
  pub wide : 0 < w
  pub inside : y < size / w
  pub row_is : row ≡ y * w
  pub other_is : other ≡ z * w
  pub row_fits : row + w ≤ size
  pub other_fits : other + w ≤ size

-- cells i and j are at most m columns and m rows apart
pub record Within (w m i j : ℕ) : Type 0 where
  pub xa : i % w ≤ j % w + m
  pub xb : j % w ≤ i % w + m
  pub ya : i / w ≤ j / w + m
  pub yb : j / w ≤ i / w + m

-- of the pairs of touching cells in S, the first is at most 1 above the second
pub record Smooth (S : ℕ → ℕ → Type 0) (w : ℕ) (cells : List ℕ) : Type 0 where
  pub step : (p q : ℕ) → S p q → Within w 1 p q → get_or cells p 0 ≤ get_or cells q 0 + 1

-- so the cells before cell i to those before them
abbrev pub Down : (w i : ℕ) → List ℕ → Type 0
Down w i = Smooth (λ p q. (p < i) × (q ≤ p)) w

-- so the first n cells to those before them, and from cell i on to all n
abbrev pub Back : (w n i : ℕ) → List ℕ → Type 0
Back w n i = Smooth (λ p q. (p < n) × (q < n) × ((i ≤ p) ⊎ (q ≤ p))) w

-- cells on the way from old: none above its old one or below the nearest, the tail as it was
pub record Kept (old : List ℕ) (w : ℕ) (cells : List ℕ) : Type 0 where
  pub same : length cells ≡ length old
  pub low : (k : ℕ) → k < whole old w → nearest_to old w k ≤ get_or cells k 0
  pub high : (k : ℕ) → get_or cells k 0 ≤ get_or old k 0
  pub tail : (k : ℕ) → whole old w ≤ k → get_or cells k 0 ≡ get_or old k 0

-- a part of a pass keeps that, and leads from P to Q
pub record Passed (P Q : List ℕ → Type 0) (w : ℕ) (before after : List ℕ) : Type 0 where
  pub same : length after ≡ length before
  pub leads : (old : List ℕ) → Kept old w before → P before → (Kept old w after) × (Q after)
