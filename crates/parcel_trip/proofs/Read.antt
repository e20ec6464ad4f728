-- What a layer's own parcel is read as: its sizes, its ratio, and its numbers in rows. Assumes nothing.
use mathlib.Core.Path.{◌≡◌, refl, ap, ◌∙◌}
use mathlib.Core.Bool.{true}
use mathlib.Core.List.{List, [], ◌++◌}
use Prim.Native.Nat.{ℕ, ◌+◌, ◌*◌, ◌/◌, ◌%◌, ◌≤◌, ◌<◌}
use native.Mathlib.Nat.{mul-le-mul}
use native.Mathlib.Omega.{arith}
use borrow.Author.Tests.{eq-eqb}
use lib.Dec.{eqb}
use lib.IntN.{ℤ, pos}
use lib.ListN.{length, get_or}
use Rattle.rules.specs.Forms.{Fit, Layer, turns, tabulate, all, each, area, shrunk, cells}
use Rattle.rules.specs.Domain.{are_sizes, is_ratio, cover_length}
use Rattle.rules.specs.Host.{numbers}
use Rattle.rules.specs.Reading.{luma_gain, luma_offset, stored_chroma, cell}
use Rattle.rules.specs.Parcel.{Record, records, in_bytes, is_short, written, split, is_whole, how_often, kinds_right, payload_of, head_size, head_ratio}
use Rattle.rules.specs.Parcel.{head_bytes, are_long, lengths_right, row_by_row, gains, offsets, chroma_offsets, cell_numbers, layer_records, parcel_of, cell_or_zero, layer_read}
use Rattle.laws.proofs.Lists.{each_table, each_at}
use Rattle.laws.proofs.Accepted.{Side, Shrinks}
use Rattle.laws.proofs.Bytes.{joined, read_back}
use Rattle.laws.proofs.Parcels.{length_rows}
use Rattle.parcel_trip.specs.Trip.{Short}
use Rattle.parcel_trip.proofs.Records.{Fits, AllFit, none, more, split_whole}

-- a layer's sizes and its ratio are in 01's domain
pub record Sound (l : Layer) : Type 0 where
  pub sizes : are_sizes l.size ≡ true
  pub ratio : is_ratio l.ratio l.size ≡ true
  pub sides : Side l.size.0 × Side l.size.1
  pub shrinks : Shrinks l.size l.ratio

-- ---- the records

-- how long the payloads behind the head are
record Long (l : Layer) : Type 0 where
  gain : length (written (gains l)) ≡ 2 * area l.size
  offset : length (written (offsets l)) ≡ 2 * area l.size
  first : length (written (chroma_offsets l 1)) ≡ 2 * area (shrunk l.size l.ratio)
  second : length (written (chroma_offsets l 2)) ≡ 2 * area (shrunk l.size l.ratio)
  mark : length (written (cell_numbers l)) ≡ 2 * cover_length l.size

long : (l : Layer) → Long l
long l =
    let chroma = shrunk l.size l.ratio in
    record {
      gain = length_rows l.size (λ x y. (luma_gain l x y).0);
      offset = length_rows l.size (λ x y. (luma_offset l x y).0);
      first = length_rows chroma (λ x y. (stored_chroma l 1 x y).0);
      second = length_rows chroma (λ x y. (stored_chroma l 2 x y).0);
      mark = length_rows (cells l.size.0, cells l.size.1) (cell l);
    }

-- a plane of at most 4096 by 4096
plane_fits : (r : Record) (size : ℕ × ℕ) → r.kind < 65536 → length r.payload ≡ 2 * area size → size.0 ≤ 4096 → size.1 ≤ 4096 → Fits r
plane_fits r size known e wide tall = record { short = rw e (omega (arith, mul-le-mul wide tall)); known = known }

-- so all six records fit
all_fit : (l : Layer) → Sound l → AllFit (layer_records l)
unfolding layer_records in_bytes
all_fit l s =
    let e = long l in
    let chroma = shrunk l.size l.ratio in
    let wide = s.sides.0.1 in
    let tall = s.sides.1.1 in
    let across = s.shrinks.across.1 in
    let down = s.shrinks.down.1 in
    more {r = record { kind = 1; payload = head_bytes l.size l.ratio }} (record { short = omega arith; known = omega arith })
    (more (plane_fits (record { kind = 2; payload = written (gains l) }) l.size (omega arith) e.gain wide tall)
    (more (plane_fits (record { kind = 3; payload = written (offsets l) }) l.size (omega arith) e.offset wide tall)
    (more (plane_fits (record { kind = 4; payload = written (chroma_offsets l 1) }) chroma (omega arith) e.first across down)
    (more (plane_fits (record { kind = 5; payload = written (chroma_offsets l 2) }) chroma (omega arith) e.second across down)
    (more (plane_fits (record { kind = 6; payload = written (cell_numbers l) }) (cells l.size.0, cells l.size.1) (omega arith) e.mark (omega arith) (omega arith))
    none)))))

-- a layer's parcel is split into its six records
split_parcel : (l : Layer) → Sound l → split (length (parcel_of l)) (parcel_of l) ≡ (layer_records l, [])
unfolding parcel_of
split_parcel l s = split_whole (layer_records l) (all_fit l s)

-- these are what is read
pub records_parcel : (l : Layer) → Sound l → records (parcel_of l) ≡ layer_records l
records_parcel l s = ap (λ (p : List Record × List ℕ). p.0) (split_parcel l s)

-- and nothing is cut short
pub whole_parcel : (l : Layer) → Sound l → is_whole (parcel_of l) ≡ true
whole_parcel l s = rw (split_parcel l s)

-- ---- what is tested of them

-- 10: kinds 1 to 6, in that order
pub kinds_right_lem : (l : Layer) → kinds_right (layer_records l) ≡ true
unfolding kinds_right layer_records how_often each all turns
kinds_right_lem l = refl

-- a head that tells these sizes and this ratio
pub record Tells (head : List ℕ) (size : ℕ × ℕ) (ratio : ℕ) : Type 0 where
  pub long : length head ≡ 6
  pub wide : (head_size head).0 ≡ size.0
  pub tall : (head_size head).1 ≡ size.1
  pub shrunk : head_ratio head ≡ ratio

-- the layer's own
pub head_tells : (l : Layer) → Sound l → Tells (payload_of 1 (layer_records l)) l.size l.ratio
unfolding layer_records payload_of in_bytes
head_tells l s =
    record {
      long = refl;
      wide = joined l.size.0 (omega (arith, s.sides.0.1));
      tall = joined l.size.1 (omega (arith, s.sides.1.1));
      shrunk = joined l.ratio (omega (arith, s.shrinks.few.1));
    }

-- a list whose head tells what its payloads' lengths are
told_right : (list : List Record) (size : ℕ × ℕ) (ratio : ℕ) → Tells (payload_of 1 list) size ratio → are_sizes size ≡ true → is_ratio ratio size ≡ true
    → are_long list size ratio ≡ true → lengths_right list ≡ true
unfolding lengths_right
told_right list size ratio t sizes shrinks long = rw (t.long, t.wide, t.tall, t.shrunk, sizes, shrinks) long

-- each payload has the length that the sizes call for
are_long_lem : (l : Layer) → are_long (layer_records l) l.size l.ratio ≡ true
unfolding layer_records payload_of all turns
are_long_lem l =
    let e = long l in
    let same : (n : ℕ) → eqb n n ≡ true = λ n. eq-eqb n n refl in
    rw (e.gain, e.offset, e.first, e.second, e.mark)
    (rw (same (2 * area l.size), same (2 * area (shrunk l.size l.ratio)), same (2 * cover_length l.size)))

-- 11
pub lengths_right_lem : (l : Layer) → Sound l → lengths_right (layer_records l) ≡ true
lengths_right_lem l s = told_right (layer_records l) l.size l.ratio (head_tells l s) s.sizes s.ratio (are_long_lem l)

-- ---- the numbers

-- rows of numbers out of a lent slice have 16 bits, so their bytes are read back
rows_back : (size : ℕ × ℕ) (list : List ℤ) (place : (x y : ℕ) → ℕ) → each is_short list ≡ true
    → numbers (written (row_by_row size (λ x y. get_or list (place x y) (pos 0)))) ≡ row_by_row size (λ x y. get_or list (place x y) (pos 0))
rows_back size list place short =
    read_back _ (each_table is_short (area size) _ (λ k h. each_at is_short list (pos 0) short (place (k % size.0) (k / size.0)) (λ p. refl)))

-- what is read out of records whose head tells these sizes and this ratio
abbrev read_of : (list : List Record) → (size : ℕ × ℕ) → (ratio : ℕ) → Fit
read_of list size ratio =
    let chroma = shrunk size ratio in
    let kind : ℕ → List ℤ = λ k. numbers (payload_of k list) in
    record {
      luma = kind 2 ++ kind 3;
      chroma = (kind 4 ++ tabulate (area chroma) (λ j. pos 0), kind 5 ++ tabulate (area chroma) (cell_or_zero (kind 6) size chroma.0));
    }

-- whatever the parcel is that they stand in
read_of_lem : (parcel : List ℕ) (list : List Record) (size : ℕ × ℕ) (ratio : ℕ) → records parcel ≡ list → Tells (payload_of 1 list) size ratio → layer_read parcel ≡ read_of list size ratio
unfolding layer_read
read_of_lem parcel list size ratio e t = rw (e, t.wide, t.tall, t.shrunk)

-- a layer's numbers in rows, each pitch its width, and 0 behind them
abbrev pub in_rows : Layer → Fit
in_rows l =
    let chroma = shrunk l.size l.ratio in
    record {
      luma = gains l ++ offsets l;
      chroma = (chroma_offsets l 1 ++ tabulate (area chroma) (λ j. pos 0), chroma_offsets l 2 ++ tabulate (area chroma) (cell_or_zero (cell_numbers l) l.size chroma.0));
    }

-- that is what is read
pub layer_read_lem : (l : Layer) → Short l → Sound l → layer_read (parcel_of l) ≡ in_rows l
unfolding layer_records payload_of
layer_read_lem l short s =
    let chroma = shrunk l.size l.ratio in
    let g = rows_back l.size l.luma (λ x y. y * l.pitch.0 + x) short.luma in
    let o = rows_back l.size l.luma (λ x y. (l.size.1 + y) * l.pitch.0 + x) short.luma in
    let a = rows_back chroma l.chroma.0 (λ x y. y * l.pitch.1 + x) short.first in
    let b = rows_back chroma l.chroma.1 (λ x y. y * l.pitch.1 + x) short.second in
    let marked : ℕ × ℕ = (cells l.size.0, cells l.size.1) in
    let m = rows_back marked l.chroma.1 (λ x y. (chroma.1 + y) * l.pitch.1 + x) short.second in
    read_of_lem (parcel_of l) (layer_records l) l.size l.ratio (records_parcel l s) (head_tells l s)
    ∙ rw (g, o, a, b, m)
