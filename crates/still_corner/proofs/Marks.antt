-- Both bits of a pixel: what is stored is the answer and leaves the plane of yes and no as it was. Assumes nothing.
use mathlib.Core.Path.{◌≡◌, refl}
use mathlib.Core.Bool.{Bool, true, false, cond}
use mathlib.Core.List.{List}
use Prim.Native.Nat.{ℕ, ◌+◌, ◌-◌, ◌*◌, ◌%◌, ◌<◌, min}
use native.Mathlib.Nat.{add-mul-mod_self_left}
use native.Mathlib.Omega.{arith}
use borrow.Author.Tests.{eqb-true, eqb-false}
use lib.Dec.{eqb}
use lib.ListN.{length, set}
use lib.Seq.{get_or-set_same, get_or-set_other}
use Rattle.rules.specs.Reading.{after}
use Rattle.still_pass.proofs.Pass.{row_none, rows_none, rows_more}
use Rattle.still_pass.proofs.Tables.{entry_more, one_pixel}
use Rattle.still_pass.specs.Table.{store}
use Rattle.still_corner.specs.declared.Column.{Column}
use Rattle.still_corner.specs.Corner.{full_by, still_by, both_bits, column_of, mark_of, is_odd, Holds, RowMarked, RowsMarked}

-- ---- bits

-- the lowest of two bits
odd_both : (b : Bool) (s : ℕ) → eqb ((cond b 1 0 + 2 * s) % 2) 1 ≡ b
odd_both true s = rw (add-mul-mod_self_left 1 2 s)
odd_both false s = rw (add-mul-mod_self_left 0 2 s)

module _ (same : (x y : ℕ) → Bool) (size : ℕ × ℕ) (x y : ℕ) (left : x < size.0) (up : y < size.1) where
  -- ---- the columns of a pixel make its bits
  pub mark_is : (a b c : Column) (above below right : ℕ) → above ≡ y - 1 → below ≡ after y size.1 → right ≡ after x size.0
      → a ≡ column_of same (x - 1) above y below → b ≡ column_of same x above y below → c ≡ column_of same right above y below
      → mark_of a b c ≡ both_bits same size x y
  unfolding mark_of still_by full_by
  mark_is a b c above below right ea eb er p q r =
      let mx : min x (size.0 - 1) ≡ x = omega arith in
      let my : min y (size.1 - 1) ≡ y = omega arith in
      let bx : x + 1 - 1 ≡ x = omega arith in
      let by : y + 1 - 1 ≡ y = omega arith in
      simp (p, q, r, ea, eb, er, mx, my, bx, by)

  -- ---- and they are stored
  holds_more : (list : List ℕ) → Holds same size list → y * size.0 + x < length list → Holds same size (set list (y * size.0 + x) (both_bits same size x y))
  holds_more list h room = record { odd = λ i j p q. go i j p q (eqb (j * size.0 + i) (y * size.0 + x)) (eqb-true _ _) (eqb-false _ _) }
    where
      here : is_odd (set list (y * size.0 + x) (both_bits same size x y)) size.0 x y ≡ same x y
      here = rw (get_or-set_same list (y * size.0 + x) (both_bits same size x y) 0 room) (odd_both (same x y) (still_by same size x y))

      go : (i j : ℕ) → i < size.0 → j < size.1 → (t : Bool) → (t ≡ true → j * size.0 + i ≡ y * size.0 + x) → (t ≡ false → j * size.0 + i ≡ y * size.0 + x → ⊥)
          → is_odd (set list (y * size.0 + x) (both_bits same size x y)) size.0 i j ≡ same i j
      go i j p q true f g = let e = one_pixel size.0 i j x y p left (f refl) in rw (e.0, e.1) here
      go i j p q false f g = rw (get_or-set_other list (y * size.0 + x) (j * size.0 + i) (both_bits same size x y) 0 (g refl)) (h.odd i j p q)

  pub row_marked : (before list : List ℕ) (v : ℕ) → RowMarked same size y x before list → y * size.0 + x < length list → v ≡ both_bits same size x y
      → RowMarked same size y (x + 1) before (set list (y * size.0 + x) v)
  row_marked before list v done room e =
      record { stored = entry_more _ _ v done.stored e; holds = rw e (holds_more list done.holds room) }

module _ (same : (x y : ℕ) → Bool) (size : ℕ × ℕ) where
  pub none_marked : (y : ℕ) (list : List ℕ) → Holds same size list → RowMarked same size y 0 list list
  none_marked y list h = record { stored = row_none (store size.0 (both_bits same size)) y list; holds = h }

  pub no_row : (list : List ℕ) → Holds same size list → RowsMarked same size 0 list list
  no_row list h = record { stored = rows_none (store size.0 (both_bits same size)) size.0 list; holds = h }

  pub rows_marked : (y : ℕ) (before list after : List ℕ) → RowsMarked same size y before list → RowMarked same size y size.0 list after
      → RowsMarked same size (y + 1) before after
  rows_marked y before list after done row = record { stored = rows_more done.stored row.stored; holds = row.holds }

  -- a column that is read is the plane's
  pub column_is : (list : List ℕ) (x above y below : ℕ) → Holds same size list → x < size.0 → above < size.1 → y < size.1 → below < size.1
      → column_of (is_odd list size.0) x above y below ≡ column_of same x above y below
  column_is list x above y below h p a b c = rw (h.odd x above p a, h.odd x y p b, h.odd x below p c)
