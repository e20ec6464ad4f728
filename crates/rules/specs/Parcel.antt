-- 02, "W-201. Layers sent between desks.": a parcel of bytes, what its writer gives, what its reader tests and leaves.
use Rattle.std.specs.Prelude.{◌&&◌, ◌∷◌, ◌++◌, ◌+◌, ◌-◌, ◌*◌, ◌/◌, ◌%◌}
use Rattle.rules.specs.Words.{Bool, false, cond, List, [], ℕ, zero, suc, leb, ltb, eqb, ℤ, pos, negsuc, neg_ℤ, length, get_or, take, drop, Sizes}
use Rattle.rules.specs.Forms.{Fit, Layer, tabulate, all, each, area, shrunk, cells, uncounted, leaves}
use Rattle.rules.specs.Calls.{ParcelWriteCall, ParcelReadCall}
use Rattle.rules.specs.Domain.{cover_length, are_sizes, is_ratio, is_fit, spans}
use Rattle.rules.specs.Refusals.{◌unless◌, first_fitting, parcel_write_refusal, parcel_rows}
use Rattle.rules.specs.Reading.{cell, luma_gain, luma_offset, stored_chroma}
use Rattle.rules.specs.Host.{little, numbers, word}

-- ---- numbers as bytes, "all little-endian": `little` and `numbers` of Host.antt read them

-- the lowest n bytes of a number, the lowest first
unfoldable pub in_bytes : (n value : ℕ) → List ℕ
in_bytes zero value = []
in_bytes (suc n) value = value % 256 ∷ in_bytes n (value / 256)

-- the 16 bits of a number, as `signed16` of Host.antt reads them
abbrev pub bits : ℤ → ℕ
bits (pos n) = n
bits (negsuc n) = 65535 - n

-- whether a number has 16 bits
abbrev pub is_short : ℤ → Bool
is_short z = spans (neg_ℤ (pos 32768)) (pos 32767) z

-- numbers one after another, "each two bytes signed"
unfoldable pub written : List ℤ → List ℕ
written [] = []
written (z ∷ rest) = in_bytes 2 (bits z) ++ written rest

-- ---- "A parcel is a run of records: payload length (four bytes), kind (two bytes), payload"

-- a record; its payload's length is that of the list
pub record Record : Type 0 where
  pub kind : ℕ
  pub payload : List ℕ

-- a record as bytes
abbrev pub record_bytes : Record → List ℕ
record_bytes r = in_bytes 4 (length r.payload) ++ in_bytes 2 r.kind ++ r.payload

-- "a run of records" as bytes
unfoldable pub run_bytes : List Record → List ℕ
run_bytes [] = []
run_bytes (r ∷ rest) = record_bytes r ++ run_bytes rest

-- the payload length that bytes begin with
abbrev pub length_at : (bytes : List ℕ) → ℕ
length_at bytes = little 4 bytes 0

-- whether bytes begin with a whole record: its six bytes stand there, and then its payload
abbrev pub begins_whole : (bytes : List ℕ) → Bool
begins_whole bytes = leb 6 (length bytes) && leb (length_at bytes) (length bytes - 6)

-- that record
abbrev pub first_record : (bytes : List ℕ) → Record
first_record bytes = record { kind = little 2 bytes 4; payload = take (length_at bytes) (drop 6 bytes) }

-- the whole records that bytes begin with, n at most, and the bytes behind them
unfoldable pub split : (n : ℕ) → (bytes : List ℕ) → List Record × List ℕ
split zero bytes = ([], bytes)
split (suc n) bytes =
    let later = split n (drop (6 + length_at bytes) bytes) in
    cond (begins_whole bytes) (first_record bytes ∷ later.0, later.1) ([], bytes)

-- the records of a parcel: each has six bytes or more, so there are no more of them than bytes
abbrev pub records : (parcel : List ℕ) → List Record
records parcel = (split (length parcel) parcel).0

-- 9, "a record cut short": nothing may be left behind the last whole record
abbrev pub is_whole : (parcel : List ℕ) → Bool
is_whole parcel = eqb (length (split (length parcel) parcel).1) 0

-- ---- 10, "a head that isn't first or an unknown, repeated or missing kind"

-- "Kind 1, the head, comes first"
abbrev pub head_first : List Record → Bool
head_first [] = false
head_first (r ∷ rest) = eqb r.kind 1

-- no kind is "unknown": kinds are 1 to 6
abbrev pub are_known : List Record → Bool
are_known list = each (λ r. leb 1 r.kind && leb r.kind 6) list

-- how many records are of a kind
unfoldable pub how_often : (kind : ℕ) → List Record → ℕ
how_often kind [] = 0
how_often kind (r ∷ rest) = cond (eqb r.kind kind) (how_often kind rest + 1) (how_often kind rest)

-- no kind is "repeated or missing": "once each in any order"
abbrev pub once_each : List Record → Bool
once_each list = all 6 (λ k. eqb (how_often (k + 1) list) 1)

-- all of this
unfoldable pub kinds_right : List Record → Bool
kinds_right list = head_first list && are_known list && once_each list

-- ---- 11, "a head not six bytes long or outside 01's domain, or a payload not of the length its head calls for"

-- the payload of a kind
unfoldable pub payload_of : (kind : ℕ) → List Record → List ℕ
payload_of kind [] = []
payload_of kind (r ∷ rest) = cond (eqb r.kind kind) r.payload (payload_of kind rest)

-- the head: "width, height, ratio, two bytes each"
abbrev pub head_size : (head : List ℕ) → ℕ × ℕ
head_size head = (little 2 head 0, little 2 head 2)

abbrev pub head_ratio : (head : List ℕ) → ℕ
head_ratio head = little 2 head 4

abbrev pub head_bytes : (size : ℕ × ℕ) → (ratio : ℕ) → List ℕ
head_bytes size ratio = in_bytes 2 size.0 ++ in_bytes 2 size.1 ++ in_bytes 2 ratio

-- a head of six bytes, whose sizes and ratio are inside "01's domain"
abbrev pub is_head : (head : List ℕ) → Bool
is_head head = eqb (length head) 6 && are_sizes (head_size head) && is_ratio (head_ratio head) (head_size head)

-- how many numbers a kind has, of 2 to 6: "luma gains, luma offsets, the offsets of planes 1 and 2, cells"
abbrev pub entries : (size : ℕ × ℕ) → (ratio kind : ℕ) → ℕ
entries size ratio kind = cond (leb kind 3) (area size) (cond (leb kind 5) (area (shrunk size ratio)) (cover_length size))

-- no payload is "not of the length its head calls for": two bytes a number, of kinds 2 to 6
abbrev pub are_long : List Record → (size : ℕ × ℕ) → (ratio : ℕ) → Bool
are_long list size ratio = all 5 (λ k. eqb (length (payload_of (k + 2) list)) (2 * entries size ratio (k + 2)))

-- all of this
unfoldable pub lengths_right : List Record → Bool
lengths_right list =
    let head = payload_of 1 list in
    is_head head && are_long list (head_size head) (head_ratio head)

-- ---- the writer

-- numbers of a plane of this width and height, "row by row without padding"
abbrev pub row_by_row : (size : ℕ × ℕ) → (at : (x y : ℕ) → ℤ) → List ℤ
row_by_row size at = tabulate (area size) (λ k. at (k % size.0) (k / size.0))

-- "luma gains"
abbrev pub gains : Layer → List ℤ
gains l = row_by_row l.size (λ x y. (luma_gain l x y).0)

-- "luma offsets"
abbrev pub offsets : Layer → List ℤ
offsets l = row_by_row l.size (λ x y. (luma_offset l x y).0)

-- "the offsets of planes 1 and 2"
abbrev pub chroma_offsets : Layer → (plane : ℕ) → List ℤ
chroma_offsets l plane = row_by_row (shrunk l.size l.ratio) (λ x y. (stored_chroma l plane x y).0)

-- "cells"
abbrev pub cell_numbers : Layer → List ℤ
cell_numbers l = row_by_row (cells l.size.0, cells l.size.1) (cell l)

-- "The writer gives kinds 1 to 6 in that order."
unfoldable pub layer_records : Layer → List Record
layer_records l =
    record { kind = 1; payload = head_bytes l.size l.ratio }
    ∷ record { kind = 2; payload = written (gains l) }
    ∷ record { kind = 3; payload = written (offsets l) }
    ∷ record { kind = 4; payload = written (chroma_offsets l 1) }
    ∷ record { kind = 5; payload = written (chroma_offsets l 2) }
    ∷ record { kind = 6; payload = written (cell_numbers l) }
    ∷ []

-- a layer's parcel
unfoldable pub parcel_of : Layer → List ℕ
parcel_of l = run_bytes (layer_records l)

-- what the writer leaves in its output
abbrev pub parcel_write_leaves : ParcelWriteCall → List ℕ
parcel_write_leaves c = leaves (parcel_write_refusal c) (parcel_of c.layer) c.parcel

-- ---- the reader

-- the sizes and the ratio of a parcel's head
abbrev pub parcel_size : (parcel : List ℕ) → ℕ × ℕ
parcel_size parcel = head_size (payload_of 1 (records parcel))

abbrev pub parcel_ratio : (parcel : List ℕ) → ℕ
parcel_ratio parcel = head_ratio (payload_of 1 (records parcel))

-- the numbers of a kind, 2 to 6
abbrev pub numbers_of : (parcel : List ℕ) → (kind : ℕ) → List ℤ
numbers_of parcel kind = numbers (payload_of kind (records parcel))

-- entry j behind the offsets of plane 2, in rows of a chroma plane: a cell, and "other tail entries are zero"
unfoldable pub cell_or_zero : (list : List ℤ) → (size : ℕ × ℕ) → (across j : ℕ) → ℤ
cell_or_zero list size across j =
    let x = j % across in
    let y = j / across in
    cond (ltb x (cells size.0) && ltb y (cells size.1)) (get_or list (y * cells size.0 + x) (pos 0)) (pos 0)

-- "the same sizes, ratio, gains, offsets and cells, in a layer whose other tail entries are zero and whose pitches are
-- its widths"
unfoldable pub layer_read : (parcel : List ℕ) → Fit
layer_read parcel =
    let size = parcel_size parcel in
    let chroma = shrunk size (parcel_ratio parcel) in
    let kind = numbers_of parcel in
    record {
      luma = kind 2 ++ kind 3;
      chroma = (kind 4 ++ tabulate (area chroma) (λ j. pos 0), kind 5 ++ tabulate (area chroma) (cell_or_zero (kind 6) size chroma.0));
    }

-- what is asked of a parcel before anything is lent
unfoldable pub parcel_sizes_refusal : (parcel : List ℕ) → ℕ
parcel_sizes_refusal parcel =
    first_fitting (parcel_rows (is_whole parcel) (kinds_right (records parcel)) (lengths_right (records parcel)) [])

-- "then 4 for its lent slices", of which "the reader's slices exactly the layer's"
unfoldable pub parcel_read_refusal : ParcelReadCall → ℕ
parcel_read_refusal c =
    let p = c.parcel in
    first_fitting (
    parcel_rows (is_whole p) (kinds_right (records p)) (lengths_right (records p)) ((4 unless is_fit c.output (parcel_size p) (parcel_ratio p)) ∷ []))

-- "answers the head's three numbers, all 0 when refused"
abbrev pub sizes_answer : (number : ℕ) → (size : ℕ × ℕ) → (ratio : ℕ) → Sizes
sizes_answer number size ratio =
    record { word = word (uncounted number); width = leaves number size.0 0; height = leaves number size.1 0; ratio = leaves number ratio 0 }

abbrev pub parcel_read_answer : ParcelReadCall → Sizes
parcel_read_answer c = sizes_answer (parcel_read_refusal c) (parcel_size c.parcel) (parcel_ratio c.parcel)

-- the same of a parcel alone, for a caller who has yet to lend slices
abbrev pub parcel_sizes_answer : (parcel : List ℕ) → Sizes
parcel_sizes_answer parcel = sizes_answer (parcel_sizes_refusal parcel) (parcel_size parcel) (parcel_ratio parcel)

-- what the reader leaves in the layer's slices
abbrev pub parcel_read_leaves : ParcelReadCall → Fit
parcel_read_leaves c = leaves (parcel_read_refusal c) (layer_read c.parcel) c.output
