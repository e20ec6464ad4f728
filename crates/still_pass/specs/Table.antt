-- A table that is stored entry by entry, in rows of its width.
use Rattle.std.specs.Prelude.{List, ℕ, ◌+◌, ◌*◌, set}
use Rattle.still_pass.specs.Pass.{RowScanned, RowsScanned}

-- the entry in column x and row y is stored
unfoldable pub store : {A : Type 0} → (width : ℕ) → (entry : (x y : ℕ) → A) → (x y : ℕ) → List A → List A
store width entry x y list = set list (y * width + x) (entry x y)

-- the first n entries of row y are stored
abbrev pub RowStored : {A : Type 0} → (width : ℕ) → (entry : (x y : ℕ) → A) → (y n : ℕ) → (before after : List A) → Type 0
RowStored width entry = RowScanned (store width entry)

-- the first n rows are
abbrev pub RowsStored : {A : Type 0} → (width : ℕ) → (entry : (x y : ℕ) → A) → (n : ℕ) → (before after : List A) → Type 0
RowsStored width entry = RowsScanned (store width entry) width
