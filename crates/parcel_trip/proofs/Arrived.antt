-- A layer's numbers in rows are its numbers, pixel by pixel and cell by cell. Assumes nothing.
use mathlib.Core.Path.{◌≡◌, ap, ◌∙◌}
use mathlib.Core.Bool.{Bool, true, false, cond, ◌&&◌}
use mathlib.Core.List.{List, ◌++◌}
use Prim.Native.Nat.{ℕ, ◌+◌, ◌*◌, ◌/◌, ◌%◌, ◌<◌}
use native.Mathlib.Nat.{add-mul, mul_comm}
use native.Mathlib.Omega.{arith}
use borrow.Author.Tests.{lt-ltb, eq-eqb}
use lib.Arith.{digits_div, digits_mod}
use lib.Dec.{ltb, eqb}
use lib.IntN.{ℤ, pos}
use lib.ListN.{length, get_or, length-append, get_or-append}
use lib.Seq.{get_or-append-add}
use Rattle.rules.specs.Forms.{Layer, tabulate, area, shrunk, cells}
use Rattle.rules.specs.Domain.{is_fit}
use Rattle.rules.specs.Reading.{as_left, cell, luma_gain, luma_offset, stored_chroma}
use Rattle.rules.specs.Parcel.{row_by_row, gains, offsets, chroma_offsets, cell_numbers, cell_or_zero}
use Rattle.laws.proofs.Lists.{place_in, length-tabulate, get_or-tabulate}
use Rattle.laws.proofs.Accepted.{cells_in}
use Rattle.parcel_trip.specs.Trip.{Arrived}
use Rattle.parcel_trip.proofs.Read.{Sound, in_rows}

-- ---- planes without padding

module _ (size : ℕ × ℕ) (at : (x y : ℕ) → ℤ) (x y : ℕ) (across : x < size.0) (down : y < size.1) where
  -- a pixel of a plane
  row_at : get_or (row_by_row size at) (y * size.0 + x) (pos 0) ≡ at x y
  row_at =
      get_or-tabulate (area size) (λ k. at (k % size.0) (k / size.0)) (y * size.0 + x) (pos 0) (place_in down across)
      ∙ rw (digits_mod y across, digits_div y across)

  -- with another behind it
  first_at : (more : List ℤ) → get_or (row_by_row size at ++ more) (y * size.0 + x) (pos 0) ≡ at x y
  first_at more =
      let known : y * size.0 + x < length (row_by_row size at) =
      rw (length-tabulate (area size) (λ k. at (k % size.0) (k / size.0))) (place_in down across) in
      get_or-append (row_by_row size at) more (pos 0) (y * size.0 + x) known ∙ row_at

-- an entry of the plane behind
second_at : (size : ℕ × ℕ) (f : ℕ → ℤ) (more : List ℤ) (j : ℕ) → get_or (tabulate (area size) f ++ more) (area size + j) (pos 0) ≡ get_or more j (pos 0)
second_at size f more j = rw (length-tabulate (area size) f) at (get_or-append-add (tabulate (area size) f) more j (pos 0))

-- and of its row y, which is row `size.1 + y` of both
below_at : (size : ℕ × ℕ) (f : ℕ → ℤ) (more : List ℤ) (x y : ℕ) → get_or (tabulate (area size) f ++ more) ((size.1 + y) * size.0 + x) (pos 0) ≡ get_or more (y * size.0 + x) (pos 0)
below_at size f more x y =
    let place : (size.1 + y) * size.0 + x ≡ area size + (y * size.0 + x) = omega (arith, add-mul size.1 y size.0, mul_comm size.1 size.0) in
    rw place (second_at size f more (y * size.0 + x))

-- both have twice the numbers of one
twice_long : (a b : List ℤ) (n : ℕ) → length a ≡ n → length b ≡ n → eqb (length (a ++ b)) (2 * n) ≡ true
twice_long a b n e f = eq-eqb (length (a ++ b)) (2 * n) (length-append a b ∙ rw (e, f) (omega arith))

-- ---- cells, and zeros about them

spread_at : (list : List ℤ) (size : ℕ × ℕ) (across x y : ℕ) → x < across → cell_or_zero list size across (y * across + x)
    ≡ cond (ltb x (cells size.0) && ltb y (cells size.1)) (get_or list (y * cells size.0 + x) (pos 0)) (pos 0)
unfolding cell_or_zero
spread_at list size across x y inside = rw (digits_mod y inside, digits_div y inside)

-- ---- a layer's numbers

module _ (l : Layer) (s : Sound l) where
  abbrev chroma : ℕ × ℕ
  chroma = shrunk l.size l.ratio

  abbrev marked : ℕ × ℕ
  marked = (cells l.size.0, cells l.size.1)

  -- what stands behind the offsets of planes 1 and 2
  abbrev zeros : List ℤ
  zeros = tabulate (area chroma) (λ j. pos 0)

  abbrev spread : List ℤ
  spread = tabulate (area chroma) (cell_or_zero (cell_numbers l) l.size chroma.0)

  abbrev arrival : Layer
  arrival = as_left (in_rows l) l.size l.ratio

  -- the slices have the lengths of a fit
  exact : is_fit (in_rows l) l.size l.ratio ≡ true
  exact =
      let full = length-tabulate (area chroma) in
      rw (twice_long (gains l) (offsets l) (area l.size) (length-tabulate _ _) (length-tabulate _ _))
      (rw (twice_long (chroma_offsets l 1) zeros (area chroma) (full _) (full _), twice_long (chroma_offsets l 2) spread (area chroma) (full _) (full _)))

  -- the offsets of a plane
  chroma_at : (plane x y : ℕ) → x < chroma.0 → y < chroma.1 → stored_chroma arrival plane x y ≡ stored_chroma l plane x y
  chroma_at plane x y across down = ap (λ (z : ℤ). record { 0 = z }) (go (eqb plane 1))
    where
      go : (b : Bool) → get_or (cond b (in_rows l).chroma.0 (in_rows l).chroma.1) (y * chroma.0 + x) (pos 0) ≡ get_or (cond b l.chroma.0 l.chroma.1) (y * l.pitch.1 + x) (pos 0)
      go true = first_at chroma (λ x y. (stored_chroma l 1 x y).0) x y across down zeros
      go false = first_at chroma (λ x y. (stored_chroma l 2 x y).0) x y across down spread

  -- an entry behind the offsets of plane 2
  tail_at : (x y : ℕ) → x < chroma.0 → y < chroma.1
      → cell arrival x y ≡ cond (ltb x marked.0 && ltb y marked.1) (get_or (cell_numbers l) (y * marked.0 + x) (pos 0)) (pos 0)
  tail_at x y across down =
      below_at chroma _ spread x y
      ∙ get_or-tabulate (area chroma) (cell_or_zero (cell_numbers l) l.size chroma.0) (y * chroma.0 + x) (pos 0) (place_in down across)
      ∙ spread_at (cell_numbers l) l.size chroma.0 x y across

  -- a cell
  marks_at : (x y : ℕ) → x < marked.0 → y < marked.1 → cell arrival x y ≡ cell l x y
  marks_at x y across down =
      let k = s.shrinks in
      let wide = cells_in l.size.0 l.ratio k.few.1 k.whole_across in
      let tall = cells_in l.size.1 l.ratio k.few.1 k.whole_down in
      tail_at x y (omega arith) (omega arith)
      ∙ rw (lt-ltb x marked.0 across, lt-ltb y marked.1 down) (row_at marked (cell l) x y across down)

  -- numbers in rows are the layer's
  pub arrived : Arrived l (in_rows l)
  arrived =
      record {
        exact = exact;
        gains = λ x y across down. ap (λ (z : ℤ). record { 0 = z }) (first_at l.size (λ x y. (luma_gain l x y).0) x y across down (offsets l));
        offsets = λ x y across down. ap (λ (z : ℤ). record { 0 = z })
            (below_at l.size _ (offsets l) x y ∙ row_at l.size (λ x y. (luma_offset l x y).0) x y across down);
        chroma = chroma_at;
        marks = marks_at;
        first_tail = λ j below. second_at chroma _ zeros j ∙ get_or-tabulate (area chroma) (λ j. pos 0) j (pos 0) below;
        second_tail = λ x y across down outside. tail_at x y across down ∙ rw outside;
      }
