-- Records one after another, and a parcel's length. Assumes nothing.
use mathlib.Core.Path.{◌≡◌, refl, ◌∙◌}
use mathlib.Core.List.{List, [], ◌∷◌, ◌++◌, append_assoc}
use Prim.Native.Nat.{ℕ, ◌+◌, ◌*◌, ◌/◌, ◌%◌}
use native.Mathlib.Omega.{arith}
use lib.IntN.{ℤ}
use lib.ListN.{length, length-append}
use Rattle.rules.specs.Forms.{Layer, tabulate, area, shrunk, cells}
use Rattle.rules.specs.Domain.{parcel_length}
use Rattle.rules.specs.Reading.{cell, luma_gain, luma_offset, stored_chroma}
use Rattle.rules.specs.Parcel.{in_bytes, written, Record, record_bytes, run_bytes, head_bytes, row_by_row, layer_records, parcel_of}
use Rattle.laws.proofs.Bytes.{length-in_bytes, length-written}
use Rattle.laws.proofs.Lists.{length-tabulate}

-- a record: its payload, and six bytes before it
pub length_record : (r : Record) → length (record_bytes r) ≡ 6 + length r.payload
length_record r =
    let before : length (in_bytes 4 (length r.payload) ++ in_bytes 2 r.kind) ≡ 6 = simp (length-append, length-in_bytes) in
    length-append (in_bytes 4 (length r.payload) ++ in_bytes 2 r.kind) r.payload ∙ rw before

-- records before others
pub run_append : (a b : List Record) → run_bytes (a ++ b) ≡ run_bytes a ++ run_bytes b
unfolding run_bytes
run_append [] b = refl
run_append (r ∷ rest) b = rw (run_append rest b, append_assoc (record_bytes r) (run_bytes rest) (run_bytes b))

pub length_run : (r : Record) (rest : List Record) → length (run_bytes (r ∷ rest)) ≡ 6 + length r.payload + length (run_bytes rest)
unfolding run_bytes
length_run r rest = length-append (record_bytes r) (run_bytes rest) ∙ rw (length_record r)

-- a head
pub length_head : (size : ℕ × ℕ) (ratio : ℕ) → length (head_bytes size ratio) ≡ 6
length_head size ratio = simp (length-append, length-in_bytes)

-- numbers of a table, and of a plane
pub length_table : (n : ℕ) (f : ℕ → ℤ) → length (written (tabulate n f)) ≡ 2 * n
length_table n f = length-written (tabulate n f) ∙ rw (length-tabulate n f)

pub length_rows : (size : ℕ × ℕ) (at : (x y : ℕ) → ℤ) → length (written (row_by_row size at)) ≡ 2 * area size
length_rows size at = length_table (area size) (λ k. at (k % size.0) (k / size.0))

-- six records
six_long : (a b c d e f : Record) → length (run_bytes (a ∷ b ∷ c ∷ d ∷ e ∷ f ∷ []))
    ≡ 36 + length a.payload + length b.payload + length c.payload + length d.payload + length e.payload + length f.payload
unfolding run_bytes
six_long a b c d e f =
    let first = length_run a (b ∷ c ∷ d ∷ e ∷ f ∷ []) in
    let second = length_run b (c ∷ d ∷ e ∷ f ∷ []) in
    omega (arith, length_run c (d ∷ e ∷ f ∷ []), length_run d (e ∷ f ∷ []), length_run e (f ∷ []), length_run f [])

-- a layer's parcel has "exactly the parcel's length"
pub parcel_long : (l : Layer) → length (parcel_of l) ≡ parcel_length l.size l.ratio
unfolding parcel_of layer_records in_bytes
parcel_long l =
    let chroma = shrunk l.size l.ratio in
    six_long _ _ _ _ _ _
    ∙ rw (length_rows l.size (λ x y. (luma_gain l x y).0), length_rows l.size (λ x y. (luma_offset l x y).0))
    (rw (length_rows chroma (λ x y. (stored_chroma l 1 x y).0), length_rows chroma (λ x y. (stored_chroma l 2 x y).0))
    (rw (length_rows (cells l.size.0, cells l.size.1) (cell l)) (omega arith)))
