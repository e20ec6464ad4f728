-- Rows of cells behind the offsets of plane 2. Assumes nothing.
use mathlib.Core.Path.{◌≡◌, refl, sym, ap, ◌∙◌}
use mathlib.Core.Bool.{Bool, true, false, cond, ◌&&◌}
use mathlib.Core.List.{List, [], ◌∷◌, ◌++◌}
use Prim.Native.Nat.{ℕ, zero, suc, ◌+◌, ◌-◌, ◌*◌, ◌/◌, ◌≤◌, ◌<◌}
use native.Mathlib.Nat.{mul-le-mul_right, suc-mul, mul_comm}
use native.Mathlib.Numerals.{add-one}
use native.Mathlib.Omega.{arith}
use borrow.Author.Tests.{lt-ltb, le-ltb}
use lib.Arith.{digits_div, digits_mod}
use borrow.Rule.Slice.PartMut.{put_mid}
use lib.Dec.{ltb}
use lib.IntN.{ℤ, pos}
use lib.ListN.{replicate, length, get_or, take, drop, length-drop}
use lib.Seq.{length-take-le, get_or-take, get_or-drop}
use Rattle.std.proofs.lemmas.List.{length-replicate}
use Rattle.rules.specs.Forms.{tabulate, cells}
use Rattle.std.specs.Int.{w16, cast_signed, from_le_bytes}
use Rattle.rules.specs.Host.{signed16, entry, numbers}
use Rattle.rules.specs.Parcel.{cell_or_zero}
use Rattle.laws.proofs.Bytes.{read_is}
use Rattle.laws.proofs.Lists.{get_or-tabulate, length-tabulate, table_same, tabulate-add}
use Rattle.table.specs.Put.{Put}
use Rattle.table.proofs.Put.{put_part, put_as, put_join}
use Rattle.parcel_fill.specs.declared.Marks.{Marks}
use Rattle.parcel_fill.specs.Fills.{zeros, mark_at, mark_row, mark_rows}

-- two bytes as a signed number
pub pair_is : (low high : ℕ) → low < 256 → high < 256 → cast_signed w16 (from_le_bytes w16 (low ∷ high ∷ [])) ≡ signed16 (low + 256 * high)
pair_is low high l h = let same : low + high * 256 ≡ low + 256 * high = omega arith in rw same (read_is (low + 256 * high) (omega arith))

-- as many zeros
zeros_are : (n : ℕ) → replicate n (pos 0) ≡ zeros n
unfolding tabulate
zeros_are zero = refl
zeros_are (suc n) = ap (λ (l : List ℤ). pos 0 ∷ l) (zeros_are n)

-- a part of the output that is filled with them
pub cleared : (before part : List ℤ) (at n : ℕ) → at + n ≤ length before → part ≡ replicate (length (take (at + n - at) (drop at before))) (pos 0)
    → Put before at (zeros n) (put_mid at (at + n - at) before part)
cleared before part at n inside e =
    let size : at + n - at ≡ n = omega arith in
    let long : length (take (at + n - at) (drop at before)) ≡ n = rw size (length-take-le n (drop at before) (rw (length-drop at before) (omega arith))) in
    let zero : part ≡ replicate n (pos 0) = e ∙ rw long in
    rw size (put_as (put_part before part at n inside (rw zero (length-replicate n (pos 0)))) (zero ∙ zeros_are n))

-- ---- a part of a payload: n numbers, from number s on

module _ (payload : List ℕ) (s n : ℕ) (inside : 2 * (s + n) ≤ length payload) where
  part : List ℕ
  part = take (2 * n) (drop (2 * s) payload)

  part_long : length part ≡ 2 * n
  unfolding part
  part_long = length-take-le (2 * n) (drop (2 * s) payload) (rw (length-drop (2 * s) payload) (omega arith))

  byte_at : (i : ℕ) → i < 2 * n → get_or part i 0 ≡ get_or payload (2 * s + i) 0
  unfolding part
  byte_at i h = get_or-take (2 * n) (drop (2 * s) payload) i 0 h ∙ get_or-drop (2 * s) payload i 0

  entry_at : (k : ℕ) → k < n → entry part k ≡ entry payload (s + k)
  entry_at k h =
      let low : 2 * s + k * 2 ≡ (s + k) * 2 = omega arith in
      let high : 2 * s + (k * 2 + 1) ≡ (s + k) * 2 + 1 = omega arith in
      rw (byte_at (k * 2) (omega arith), byte_at (k * 2 + 1) (omega arith), low, high)

  pub numbers_part : numbers (take (2 * n) (drop (2 * s) payload)) ≡ tabulate n (λ k. entry payload (s + k))
  unfolding numbers part
  numbers_part =
      let half : 2 * n / 2 ≡ n = omega arith in
      rw (part_long, half) (table_same n (entry part) (λ k. entry payload (s + k)) entry_at)

-- ---- a row of a chroma plane

module _ (payload : List ℕ) (m : Marks) (y : ℕ) (narrow : cells m.width ≤ m.across) where
  mark_is : (x : ℕ) → x < m.across
      → mark_at payload m (y * m.across + x) ≡ cond (ltb x (cells m.width) && ltb y (cells m.height)) (get_or (numbers payload) (y * cells m.width + x) (pos 0)) (pos 0)
  unfolding cell_or_zero
  mark_is x left = rw (digits_div y left, digits_mod y left)

  -- below the cells there is none
  pub row_below : cells m.height ≤ y → zeros m.across ≡ mark_row payload m y
  row_below h =
      table_same m.across (λ k. pos 0) (λ x. mark_at payload m (y * m.across + x)) (λ x left. sym (mark_is x left ∙ rw (le-ltb y (cells m.height) h) (go (ltb x (cells m.width)) _)))
    where
      go : (b : Bool) (z : ℤ) → cond (b && false) z (pos 0) ≡ pos 0
      go true z = refl
      go false z = refl

  -- else they stand at the row's beginning
  module _ (above : y < cells m.height) (long : length payload ≡ 2 * (cells m.width * cells m.height)) where
    pub row_fits : y * cells m.width + cells m.width ≤ cells m.width * cells m.height
    row_fits = omega (arith, suc-mul y (cells m.width), mul-le-mul_right (cells m.width) above, mul_comm (cells m.width) (cells m.height))

    cell_at : (x : ℕ) → x < cells m.width → entry payload (y * cells m.width + x) ≡ mark_at payload m (y * m.across + x)
    unfolding numbers
    cell_at x left =
        let many : length payload / 2 ≡ cells m.width * cells m.height = omega arith in
        sym (mark_is x (omega arith) ∙ rw (lt-ltb x (cells m.width) left, lt-ltb y (cells m.height) above)
        (get_or-tabulate (length payload / 2) (entry payload) (y * cells m.width + x) (pos 0) (omega (arith, row_fits))))

    none_at : (x : ℕ) → cells m.width + x < m.across → pos 0 ≡ mark_at payload m (y * m.across + (cells m.width + x))
    none_at x left = sym (mark_is (cells m.width + x) left ∙ rw (le-ltb (cells m.width + x) (cells m.width) (omega arith)))

    pub row_is : tabulate (cells m.width) (λ k. entry payload (y * cells m.width + k)) ++ zeros (m.across - cells m.width) ≡ mark_row payload m y
    row_is =
        let whole : cells m.width + (m.across - cells m.width) ≡ m.across = omega arith in
        let front = table_same (cells m.width) (λ k. entry payload (y * cells m.width + k)) (λ x. mark_at payload m (y * m.across + x)) cell_at in
        let behind = table_same (m.across - cells m.width) (λ k. pos 0) (λ x. mark_at payload m (y * m.across + (cells m.width + x))) (λ x h. none_at x (omega arith)) in
        rw (front, behind)
        (sym (rw whole at (tabulate-add (cells m.width) (m.across - cells m.width) (λ x. mark_at payload m (y * m.across + x)))))

    -- the cells are put, and then zeros
    pub row_put : (wide : ℕ) → wide ≡ cells m.width → {before now after : List ℤ} {at : ℕ}
        → Put before at (numbers (take (2 * (y * wide) + 2 * wide - 2 * (y * wide)) (drop (2 * (y * wide)) payload))) now
        → Put now (at + wide) (zeros (m.across - wide)) after → Put before at (mark_row payload m y) after
    row_put wide e {at = at} a b =
        let size : 2 * (y * wide) + 2 * wide - 2 * (y * wide) ≡ 2 * wide = omega arith in
        let inside : 2 * (y * wide + wide) ≤ length payload = rw e (omega (arith, row_fits)) in
        let front = put_as (rw size at a) (numbers_part payload (y * wide) wide inside) in
        let next = ap (λ (n : ℕ). at + n) (sym (length-tabulate wide (λ k. entry payload (y * wide + k)))) in
        put_as (put_join front next b) (rw e row_is)

-- a row more
rows_more : (payload : List ℕ) (m : Marks) (y : ℕ) → mark_rows payload m y ++ mark_row payload m y ≡ mark_rows payload m (y + 1)
rows_more payload m y = rw (add-one y, suc-mul y m.across) (sym (tabulate-add (y * m.across) m.across (mark_at payload m)))

pub rows_put : (payload : List ℕ) (m : Marks) (y : ℕ) {before now after : List ℤ} {at : ℕ} → Put before at (mark_rows payload m y) now
    → Put now (at + y * m.across) (mark_row payload m y) after → Put before at (mark_rows payload m (y + 1)) after
rows_put payload m y {at = at} a b =
    put_as (put_join a (ap (λ (n : ℕ). at + n) (sym (length-tabulate (y * m.across) (mark_at payload m)))) b) (rows_more payload m y)
