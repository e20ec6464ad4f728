-- 02: "Reading a written parcel yields the same sizes, ratio, gains, offsets and cells, in a layer whose other tail
-- entries are zero and whose pitches are its widths."
use Rattle.std.specs.Prelude.{◌≡◌, true, false, ◌&&◌, [], ◌∷◌, ℕ, ◌+◌, ◌/◌, ◌<◌, ltb, pos, negsuc, length, get_or, replicate}
use Rattle.rules.specs.Forms.{Fit, Layer, each, area, shrunk, cells}
use Rattle.rules.specs.Calls.{ParcelWriteCall, ParcelReadCall}
use Rattle.rules.specs.Domain.{parcel_length, is_fit}
use Rattle.rules.specs.Refusals.{parcel_write_refusal}
use Rattle.rules.specs.Reading.{as_left, cell, luma_gain, luma_offset, stored_chroma}
use Rattle.rules.specs.Parcel.{is_short, parcel_of, parcel_write_leaves, sizes_answer, parcel_sizes_answer, parcel_read_answer, parcel_read_leaves}

-- a layer's numbers have 16 bits, as those of a lent slice have
pub record Short (l : Layer) : Type 0 where
  pub luma : each is_short l.luma ≡ true
  pub first : each is_short l.chroma.0 ≡ true
  pub second : each is_short l.chroma.1 ≡ true

-- what was read holds a layer's numbers, pixel by pixel and cell by cell, whatever pitches and tails it was lent with,
-- and 0 elsewhere; "whose pitches are its widths" is `as_left`
pub record Arrived (l : Layer) (f : Fit) : Type 0 where
  pub exact : is_fit f l.size l.ratio ≡ true
  pub gains : (x y : ℕ) → x < l.size.0 → y < l.size.1 → luma_gain (as_left f l.size l.ratio) x y ≡ luma_gain l x y
  pub offsets : (x y : ℕ) → x < l.size.0 → y < l.size.1 → luma_offset (as_left f l.size l.ratio) x y ≡ luma_offset l x y
  pub chroma : (plane x y : ℕ) → x < l.size.0 / l.ratio → y < l.size.1 / l.ratio
      → stored_chroma (as_left f l.size l.ratio) plane x y ≡ stored_chroma l plane x y
  pub marks : (x y : ℕ) → x < cells l.size.0 → y < cells l.size.1 → cell (as_left f l.size l.ratio) x y ≡ cell l x y
  pub first_tail : (j : ℕ) → j < area (shrunk l.size l.ratio) → get_or f.chroma.0 (area (shrunk l.size l.ratio) + j) (pos 0) ≡ pos 0
  pub second_tail : (x y : ℕ) → x < l.size.0 / l.ratio → y < l.size.1 / l.ratio → (ltb x (cells l.size.0) && ltb y (cells l.size.1)) ≡ false
      → cell (as_left f l.size l.ratio) x y ≡ pos 0

-- a call of the reader is accepted, tells the sizes and the ratio of a layer, and leaves its numbers
pub record Back (l : Layer) (c : ParcelReadCall) : Type 0 where
  pub sizes : parcel_sizes_answer c.parcel ≡ sizes_answer 0 l.size l.ratio
  pub told : parcel_read_answer c ≡ sizes_answer 0 l.size l.ratio
  pub layer : Arrived l (parcel_read_leaves c)

-- whatever layer the writer accepts, what it wrote is read back into any slices of the layer's lengths
abbrev pub RoundTrip : Type 0
RoundTrip = (w : ParcelWriteCall) → Short w.layer → parcel_write_refusal w ≡ 0
    → (output : Fit) → is_fit output w.layer.size w.layer.ratio ≡ true
    → Back w.layer (record { parcel = parcel_write_leaves w; output = output })

-- a layer's parcel has "exactly the parcel's length"
abbrev pub ParcelLong : Type 0
ParcelLong = (l : Layer) → length (parcel_of l) ≡ parcel_length l.size l.ratio

-- ---- by example: 4 by 2 pixels of ratio 2, in rows of 5 and 3 numbers; 90 to 99 are padding and tails, and the one
-- cell is -5

abbrev pub some : Layer
some =
    record {
      luma =
          pos 1 ∷ pos 2 ∷ pos 3 ∷ pos 32767 ∷ pos 90 ∷ pos 5 ∷ pos 6 ∷ pos 7 ∷ pos 8 ∷ pos 91
          ∷ negsuc 0 ∷ negsuc 1 ∷ negsuc 2 ∷ negsuc 32767 ∷ pos 92 ∷ pos 11 ∷ pos 12 ∷ pos 13 ∷ pos 14 ∷ pos 93
          ∷ [];
      chroma = (pos 21 ∷ pos 22 ∷ pos 94 ∷ pos 95 ∷ pos 96 ∷ pos 97 ∷ [], negsuc 30 ∷ pos 32 ∷ pos 98 ∷ negsuc 4 ∷ pos 99 ∷ pos 99 ∷ pos 99 ∷ []);
      pitch = (5, 3);
      size = (4, 2);
      ratio = 2;
    }

-- what is read back
abbrev pub some_read : Fit
some_read =
    record {
      luma =
          pos 1 ∷ pos 2 ∷ pos 3 ∷ pos 32767 ∷ pos 5 ∷ pos 6 ∷ pos 7 ∷ pos 8
          ∷ negsuc 0 ∷ negsuc 1 ∷ negsuc 2 ∷ negsuc 32767 ∷ pos 11 ∷ pos 12 ∷ pos 13 ∷ pos 14
          ∷ [];
      chroma = (pos 21 ∷ pos 22 ∷ pos 0 ∷ pos 0 ∷ [], negsuc 30 ∷ pos 32 ∷ negsuc 4 ∷ pos 0 ∷ []);
    }

-- slices of the lengths that the writer and the reader ask for
abbrev pub some_write : ParcelWriteCall
some_write = record { layer = some; parcel = replicate 84 9 }

abbrev pub some_room : Fit
some_room = record { luma = replicate 16 (pos 9); chroma = (replicate 4 (pos 9), replicate 4 (pos 9)) }

pub record Example : Type 0 where
  pub short : Short some
  pub accepted : parcel_write_refusal some_write ≡ 0
  pub exact : is_fit some_room (4, 2) 2 ≡ true
  pub read : parcel_read_leaves (record { parcel = parcel_write_leaves some_write; output = some_room }) ≡ some_read
  pub told : parcel_read_answer (record { parcel = parcel_write_leaves some_write; output = some_room }) ≡ record { word = 0; width = 4; height = 2; ratio = 2 }
