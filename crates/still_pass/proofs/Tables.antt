-- A table that is stored row by row is the table. Assumes nothing.
use mathlib.Core.Path.{◌≡◌, sym, ap, ◌∙◌}
use mathlib.Core.List.{List}
use Prim.Native.Nat.{ℕ, zero, suc, ◌+◌, ◌*◌, ◌/◌, ◌%◌, ◌≤◌, ◌<◌}
use native.Mathlib.Nat.{zero-mul, suc-mul, mul_comm, add-zero, add-suc}
use native.Mathlib.Numerals.{add-one}
use native.Mathlib.Omega.{arith}
use lib.Arith.{digits_lt, digits_div, digits_mod}
use lib.ListN.{length, get_or, set}
use Rattle.rules.specs.Forms.{turns, scan_row, scan, tabulate}
use Rattle.laws.proofs.Lists.{length-tabulate, get_or-tabulate}
use Rattle.laws.specs.Filled.{filled}
use Rattle.laws.proofs.Filled.{filled_all}
use Rattle.still_pass.specs.Table.{store, RowStored, RowsStored}

-- one entry more
pub entry_more : {A : Type 0} (width : ℕ) (entry : (x y : ℕ) → A) {y x : ℕ} {before list : List A} (v : A)
    → RowStored width entry y x before list → v ≡ entry x y → RowStored width entry y (x + 1) before (set list (y * width + x) v)
unfolding turns scan_row store
entry_more width entry v so e = record { done = simp (e, so.done, add-one) }

-- two pixels with one place are one pixel
pub one_pixel : (width x y i j : ℕ) → x < width → i < width → y * width + x ≡ j * width + i → (x ≡ i) × (y ≡ j)
one_pixel width x y i j p q e =
    (sym (digits_mod y p) ∙ ap (λ (k : ℕ). k % width) e ∙ digits_mod j q, sym (digits_div y p) ∙ ap (λ (k : ℕ). k / width) e ∙ digits_div j q)

-- ---- the table

-- storing row by row is storing entry by entry
module _ {A : Type 0} (width : ℕ) (entry : (x y : ℕ) → A) where
  abbrev flat : ℕ → A
  flat k = entry (k % width) (k / width)

  row_flat : (y n : ℕ) (list : List A) → n ≤ width → scan_row (store width entry) y n (filled (y * width) flat list) ≡ filled (y * width + n) flat list
  unfolding turns scan_row filled store
  row_flat y zero list h = rw (add-zero)
  row_flat y (suc n) list h =
      let inside : n < width = h in
      rw (row_flat y n list (omega arith), add-suc (y * width) n, digits_mod y inside, digits_div y inside)

  rows_flat : (height : ℕ) (list : List A) → scan (store width entry) (width, height) list ≡ filled (height * width) flat list
  unfolding turns scan filled store
  rows_flat zero list = rw zero-mul
  rows_flat (suc height) list = rw (suc-mul height width, rows_flat height list) (row_flat height width list (omega arith))

  module _ (height : ℕ) (before after : List A) (so : RowsStored width entry height before after) (long : length before ≡ width * height) where
    stored : after ≡ filled (width * height) flat before
    stored = so.done ∙ rows_flat height before ∙ rw (mul_comm height width)

    -- the law: what is left is the table
    pub table : after ≡ tabulate (width * height) flat
    table = stored ∙ filled_all flat before (flat 0) (width * height) long

    pub table_length : length after ≡ width * height
    table_length = rw table (length-tabulate (width * height) flat)

    -- and its entry at a pixel
    pub table_at : (x y : ℕ) (d : A) → x < width → y < height → get_or after (y * width + x) d ≡ entry x y
    table_at x y d inside below =
        rw (table, get_or-tabulate (width * height) flat (y * width + x) d (omega (arith, digits_lt below inside, mul_comm height width)), digits_mod y inside, digits_div y inside)
