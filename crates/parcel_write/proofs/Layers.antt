-- A layer's records, put one after another: what their runs hold is what the layer's do. Assumes nothing.
use mathlib.Core.Path.{◌≡◌, sym, ap, ◌∙◌}
use mathlib.Core.List.{List, [], ◌∷◌, ◌++◌}
use Prim.Native.Nat.{ℕ, ◌+◌, ◌*◌, ◌/◌, ◌%◌}
use native.Mathlib.Nat.{add-mul, zero-add}
use native.Mathlib.Omega.{arith}
use lib.IntN.{ℤ, pos}
use lib.ListN.{length, get_or, take, drop, take-append-drop}
use Rattle.rules.specs.Forms.{area, cells}
use Rattle.rules.specs.Domain.{parcel_length}
use Rattle.rules.specs.Reading.{cell, luma_gain, luma_offset, stored_chroma}
use Rattle.rules.specs.Parcel.{written, Record, record_bytes, run_bytes, head_bytes, row_by_row, layer_records, parcel_of}
use Rattle.laws.proofs.Lists.{table_same}
use Rattle.laws.proofs.Parcels.{length_record, length_run, length_head, length_rows, run_append, parcel_long}
use Rattle.plane.specs.Slices.{slice}
use Rattle.table.specs.Put.{Put}
use Rattle.table.proofs.Put.{put_none, put_as, put_join, put_whole}
use Rattle.layer_lent.specs.declared.Shape.{Shape}
use Rattle.layer_lent.specs.Lent.{lay, Numbers}
use Rattle.parcel_put.specs.Runs.{entry_of}

-- ---- what a run holds

rows_same : (size : ℕ × ℕ) (f g : (x y : ℕ) → ℤ) → ((x y : ℕ) → f x y ≡ g x y) → row_by_row size f ≡ row_by_row size g
rows_same size f g e =
    table_same (area size) (λ k. f (k % size.0) (k / size.0)) (λ k. g (k % size.0) (k / size.0)) (λ k h. e (k % size.0) (k / size.0))

-- from the first entry on
first_are : (list : List ℤ) (pitch : ℕ) (size : ℕ × ℕ) → row_by_row size (entry_of list 0 pitch) ≡ row_by_row size (λ x y. get_or list (y * pitch + x) (pos 0))
first_are list pitch size =
    rows_same size (entry_of list 0 pitch) (λ x y. get_or list (y * pitch + x) (pos 0)) (λ x y. rw (zero-add (y * pitch)))

-- behind so many rows
later_are : (list : List ℤ) (pitch rows : ℕ) (size : ℕ × ℕ)
    → row_by_row size (entry_of list (rows * pitch) pitch) ≡ row_by_row size (λ x y. get_or list ((rows + y) * pitch + x) (pos 0))
later_are list pitch rows size =
    rows_same size (entry_of list (rows * pitch) pitch) (λ x y. get_or list ((rows + y) * pitch + x) (pos 0)) (λ x y. rw (add-mul rows y pitch))

-- ---- records before others

abbrev record_of : (kind : ℕ) → List ℤ → Record
record_of kind list = record { kind = kind; payload = written list }

abbrev head_of : (size : ℕ × ℕ) → (ratio : ℕ) → Record
head_of size ratio = record { kind = 1; payload = head_bytes size ratio }

head_then : {before now after : List ℕ} (size : ℕ × ℕ) (ratio : ℕ) (rest : List Record) → Put before 0 (record_bytes (head_of size ratio)) now
    → Put now 12 (run_bytes rest) after → Put before 0 (run_bytes (head_of size ratio ∷ rest)) after
unfolding run_bytes
head_then size ratio rest first more = put_join first (rw (length_record (head_of size ratio), length_head size ratio)) more

-- the record of a run that holds what a plane does
run_then : {before now after : List ℕ} {at next : ℕ} (kind : ℕ) (size : ℕ × ℕ) (f : (x y : ℕ) → ℤ) (rest : List Record) {list : List ℤ}
    → Put before at (record_bytes (record_of kind list)) now → list ≡ row_by_row size f → next ≡ at + 6 + 2 * area size
    → Put now next (run_bytes rest) after → Put before at (run_bytes (record_of kind (row_by_row size f) ∷ rest)) after
unfolding run_bytes
run_then kind size f rest first same e more =
    put_join (put_as first (ap (λ (l : List ℤ). record_bytes (record_of kind l)) same))
    (rw (length_record (record_of kind (row_by_row size f)), length_rows size f) (omega arith))
    more

run_last : {before after : List ℕ} {at : ℕ} (kind : ℕ) (size : ℕ × ℕ) (f : (x y : ℕ) → ℤ) {list : List ℤ}
    → Put before at (record_bytes (record_of kind list)) after → list ≡ row_by_row size f → Put before at (run_bytes (record_of kind (row_by_row size f) ∷ [])) after
unfolding run_bytes
run_last {after = after} {at = at} kind size f done same = run_then kind size f [] done same (omega arith) (put_none after (at + 6 + 2 * area size))

-- ---- a layer's records

module _ (s : Shape) (numbers : Numbers) where
  pub luma_put : {parcel first second after : List ℕ} (at : ℕ) → Put parcel 0 (record_bytes (head_of (s.width, s.height) s.ratio)) first
      → Put first 12 (record_bytes (record_of 2 (row_by_row (s.width, s.height) (entry_of (slice numbers 0) 0 s.luma_pitch)))) second
      → at ≡ 18 + 2 * (s.width * s.height)
      → Put second at (record_bytes (record_of 3 (row_by_row (s.width, s.height) (entry_of (slice numbers 0) (s.height * s.luma_pitch) s.luma_pitch)))) after
      → Put parcel 0 (run_bytes (take 3 (layer_records (lay s (slice numbers))))) after
  unfolding layer_records
  luma_put at head a e b =
      let l = lay s (slice numbers) in
      let size : ℕ × ℕ = (s.width, s.height) in
      let pitch = s.luma_pitch in
      head_then size s.ratio _ head
      (run_then 2 size (λ x y. (luma_gain l x y).0) _ a (first_are (slice numbers 0) pitch size) e
      (run_last 3 size (λ x y. (luma_offset l x y).0) b (later_are (slice numbers 0) pitch s.height size)))

  luma_long : length (run_bytes (take 3 (layer_records (lay s (slice numbers))))) ≡ 24 + 4 * (s.width * s.height)
  unfolding layer_records run_bytes
  luma_long =
      let l = lay s (slice numbers) in
      let size : ℕ × ℕ = (s.width, s.height) in
      let gains = record_of 2 (row_by_row size (λ x y. (luma_gain l x y).0)) in
      let offsets = record_of 3 (row_by_row size (λ x y. (luma_offset l x y).0)) in
      omega (
        arith,
        length_run (head_of size s.ratio) (gains ∷ offsets ∷ []),
        length_run gains (offsets ∷ []),
        length_run offsets [],
        length_head size s.ratio,
        length_rows size (λ x y. (luma_gain l x y).0),
        length_rows size (λ x y. (luma_offset l x y).0),
      )

  -- chroma's rows are so many, and so wide; the cells are behind them
  module _ (across rows w h : ℕ) (is-across : across ≡ s.width / s.ratio) (is-rows : rows ≡ s.height / s.ratio) (is-w : w ≡ cells s.width) (is-h : h ≡ cells s.height) where
    pub chroma_put : {parcel first second after : List ℕ} {at : ℕ} (next last : ℕ)
        → Put parcel at (record_bytes (record_of 4 (row_by_row (across, rows) (entry_of (slice numbers 1) 0 s.chroma_pitch)))) first → next ≡ at + 6 + 2 * (across * rows)
        → Put first next (record_bytes (record_of 5 (row_by_row (across, rows) (entry_of (slice numbers 2) 0 s.chroma_pitch)))) second → last ≡ next + 6 + 2 * (across * rows)
        → Put second last (record_bytes (record_of 6 (row_by_row (w, h) (entry_of (slice numbers 2) (rows * s.chroma_pitch) s.chroma_pitch)))) after
        → Put parcel at (run_bytes (drop 3 (layer_records (lay s (slice numbers))))) after
    unfolding layer_records
    chroma_put next last a e b f c =
        let l = lay s (slice numbers) in
        let pitch = s.chroma_pitch in
        let chroma : ℕ × ℕ = (s.width / s.ratio, s.height / s.ratio) in
        let marks : ℕ × ℕ = (cells s.width, cells s.height) in
        run_then 4 chroma (λ x y. (stored_chroma l 1 x y).0) _ (rw (is-across, is-rows) at a) (first_are (slice numbers 1) pitch chroma) (rw (is-across, is-rows) at e)
        (run_then 5 chroma (λ x y. (stored_chroma l 2 x y).0) _ (rw (is-across, is-rows) at b) (first_are (slice numbers 2) pitch chroma) (rw (is-across, is-rows) at f)
        (run_last 6 marks (cell l) (rw (is-rows, is-w, is-h) at c) (later_are (slice numbers 2) pitch (s.height / s.ratio) marks)))

  -- all of it
  pub layer_put : {parcel now after : List ℕ} (at : ℕ) → length parcel ≡ parcel_length (s.width, s.height) s.ratio → at ≡ 24 + 4 * (s.width * s.height)
      → Put parcel 0 (run_bytes (take 3 (layer_records (lay s (slice numbers))))) now → Put now at (run_bytes (drop 3 (layer_records (lay s (slice numbers))))) after
      → after ≡ parcel_of (lay s (slice numbers))
  unfolding parcel_of
  layer_put at long e a b =
      let l = lay s (slice numbers) in
      let first = take 3 (layer_records l) in
      let rest = drop 3 (layer_records l) in
      let whole : run_bytes first ++ run_bytes rest ≡ parcel_of l = sym (run_append first rest) ∙ ap run_bytes (take-append-drop 3 (layer_records l)) in
      put_whole (put_as (put_join a (e ∙ sym (zero-add (length (run_bytes first)) ∙ luma_long)) b) whole) (long ∙ sym (parcel_long l))
