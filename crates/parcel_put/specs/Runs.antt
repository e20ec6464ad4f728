-- Rows of numbers as they lie in a slice.
use Rattle.std.specs.Prelude.{List, ℕ, ◌+◌, ◌*◌, ◌/◌, ◌%◌, ◌≤◌, ℤ, pos, length, get_or}
use Rattle.rules.specs.Forms.{tabulate}
use Rattle.rules.specs.Parcel.{row_by_row}
use Rattle.parcel_put.specs.declared.Run.{Run}

-- so many numbers, from one of them on
abbrev pub row_of : (numbers : List ℤ) → (from count : ℕ) → List ℤ
row_of numbers from count = tabulate count (λ k. get_or numbers (from + k) (pos 0))

-- the number in column x and row y of rows that begin a pitch apart
abbrev pub entry_of : (numbers : List ℤ) → (from pitch x y : ℕ) → ℤ
entry_of numbers from pitch x y = get_or numbers (from + y * pitch + x) (pos 0)

-- the first rows of a run
abbrev pub first_of : (numbers : List ℤ) → (from pitch width rows : ℕ) → List ℤ
first_of numbers from pitch width rows =
    tabulate (rows * width) (λ k. entry_of numbers from pitch (k % width) (k / width))

-- the numbers of a run
abbrev pub run_of : (numbers : List ℤ) → Run → List ℤ
run_of numbers r = row_by_row (r.width, r.rows) (entry_of numbers r.from r.pitch)

-- a run lies within its slice, and its bytes within the output
pub record RunFits (output : List ℕ) (at : ℕ) (numbers : List ℤ) (r : Run) : Type 0 where
  pub narrow : r.width ≤ r.pitch
  pub room : at + 2 * (r.width * r.rows) ≤ length output
  pub inside : r.from + r.pitch * r.rows ≤ length numbers
