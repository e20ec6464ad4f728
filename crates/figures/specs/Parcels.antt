-- Figures of parcels (02): one written out byte by byte, read back, in another order of kinds, and refused.
use Rattle.std.specs.Prelude.{◌≡◌, List, [], ◌∷◌, ◌++◌, ℕ, ℤ, pos, negsuc, length, take, replicate}
use Rattle.rules.specs.declared.Sizes.{Sizes}
use Rattle.rules.specs.Forms.{Fit, Layer}
use Rattle.rules.specs.Domain.{parcel_length}
use Rattle.rules.specs.Refusals.{parcel_write_refusal}
use Rattle.rules.specs.Parcel.{record_bytes, parcel_of, parcel_write_leaves, parcel_sizes_refusal, parcel_read_refusal, parcel_read_answer, parcel_read_leaves}

-- a layer of one pixel: gain 8192, offset 640, offsets 3 and -2 of planes 1 and 2, distance 1; the slices of
-- luma and of plane 2 are longer than they need be
abbrev pub one_layer : Layer
one_layer =
    record {
      luma = pos 8192 ∷ pos 640 ∷ pos 7 ∷ [];
      chroma = (pos 3 ∷ pos 9 ∷ [], negsuc 1 ∷ pos 1 ∷ pos 7 ∷ []);
      pitch = (1, 1);
      size = (1, 1);
      ratio = 1;
    }

-- its records: "payload length (four bytes), kind (two bytes), payload, all little-endian"
abbrev pub head : List ℕ
head = 6 ∷ 0 ∷ 0 ∷ 0 ∷ 1 ∷ 0 ∷ 1 ∷ 0 ∷ 1 ∷ 0 ∷ 1 ∷ 0 ∷ []

abbrev pub luma_bytes : List ℕ
luma_bytes = 2 ∷ 0 ∷ 0 ∷ 0 ∷ 2 ∷ 0 ∷ 0 ∷ 32 ∷ 2 ∷ 0 ∷ 0 ∷ 0 ∷ 3 ∷ 0 ∷ 128 ∷ 2 ∷ []

abbrev pub chroma_bytes : List ℕ
chroma_bytes = 2 ∷ 0 ∷ 0 ∷ 0 ∷ 4 ∷ 0 ∷ 3 ∷ 0 ∷ 2 ∷ 0 ∷ 0 ∷ 0 ∷ 5 ∷ 0 ∷ 254 ∷ 255 ∷ []

abbrev pub cell_bytes : List ℕ
cell_bytes = 2 ∷ 0 ∷ 0 ∷ 0 ∷ 6 ∷ 0 ∷ 1 ∷ 0 ∷ []

abbrev pub one_parcel : List ℕ
one_parcel = head ++ luma_bytes ++ chroma_bytes ++ cell_bytes

-- "The writer gives kinds 1 to 6 in that order."
abbrev pub Written : Type 0
Written =
    (parcel_of one_layer ≡ one_parcel) × (length one_parcel ≡ parcel_length (1, 1) 1)
    × (parcel_write_leaves (record { layer = one_layer; parcel = replicate 52 9 }) ≡ one_parcel)
    × (parcel_write_refusal (record { layer = one_layer; parcel = replicate 51 9 }) ≡ 4)
    × (parcel_write_leaves (record { layer = one_layer; parcel = replicate 51 9 }) ≡ replicate 51 9)

-- slices to read into
abbrev pub room : Fit
room = record { luma = replicate 2 (pos 5); chroma = (replicate 2 (pos 5), replicate 2 (pos 5)) }

-- what is left in them
abbrev pub one_fit : Fit
one_fit = record { luma = pos 8192 ∷ pos 640 ∷ []; chroma = (pos 3 ∷ pos 0 ∷ [], negsuc 1 ∷ pos 1 ∷ []) }

-- an answer that tells sizes
abbrev pub told : (number width height ratio : ℕ) → Sizes
told number width height ratio = record { word = number; width = width; height = height; ratio = ratio }

-- "Kinds 2 to 6 follow once each in any order"
abbrev pub Read : Type 0
Read =
    (parcel_read_leaves (record { parcel = one_parcel; output = room }) ≡ one_fit)
    × (parcel_read_answer (record { parcel = one_parcel; output = room }) ≡ told 0 1 1 1)
    × (parcel_read_leaves (record { parcel = head ++ cell_bytes ++ chroma_bytes ++ luma_bytes; output = room }) ≡ one_fit)

-- a record of a kind with no payload
abbrev pub bare : (kind : ℕ) → List ℕ
bare kind = record_bytes (record { kind = kind; payload = [] })

-- "9 a record cut short": the last byte is missing, five bytes are left, or a record says that 4294967295 follow; an
-- unknown kind before it is passed over, since 9 is tested "over the whole parcel"
abbrev pub Cut : Type 0
Cut =
    (parcel_sizes_refusal (take 51 one_parcel) ≡ 9) × (parcel_sizes_refusal (one_parcel ++ take 5 cell_bytes) ≡ 9)
    × (parcel_sizes_refusal (one_parcel ++ bare 7 ++ 255 ∷ 255 ∷ 255 ∷ 255 ∷ 1 ∷ 0 ∷ []) ≡ 9)
    × (parcel_read_answer (record { parcel = take 51 one_parcel; output = room }) ≡ told 9 0 0 0)

-- "10 a head that isn't first or an unknown, repeated or missing kind"; a second head is a repeat
abbrev pub Kinds : Type 0
Kinds =
    (parcel_sizes_refusal [] ≡ 10) × (parcel_sizes_refusal (luma_bytes ++ head ++ chroma_bytes ++ cell_bytes) ≡ 10)
    × (parcel_sizes_refusal (one_parcel ++ bare 257) ≡ 10) × (parcel_sizes_refusal (one_parcel ++ cell_bytes) ≡ 10)
    × (parcel_sizes_refusal (head ++ one_parcel) ≡ 10) × (parcel_sizes_refusal (head ++ luma_bytes ++ chroma_bytes) ≡ 10)

-- a head of height and ratio 1, with these two bytes for its width
abbrev pub wide : (low high : ℕ) → List ℕ
wide low high = 6 ∷ 0 ∷ 0 ∷ 0 ∷ 1 ∷ 0 ∷ low ∷ high ∷ 1 ∷ 0 ∷ 1 ∷ 0 ∷ []

-- "11 a head not six bytes long or outside 01's domain, or a payload not of the length its head calls for"; a head of
-- width 0 or 65535, and cells of no byte
abbrev pub Lengths : Type 0
Lengths =
    (parcel_sizes_refusal (bare 1 ++ luma_bytes ++ chroma_bytes ++ cell_bytes) ≡ 11)
    × (parcel_sizes_refusal (wide 0 0 ++ luma_bytes ++ chroma_bytes ++ cell_bytes) ≡ 11)
    × (parcel_sizes_refusal (wide 255 255 ++ luma_bytes ++ chroma_bytes ++ cell_bytes) ≡ 11)
    × (parcel_sizes_refusal (head ++ luma_bytes ++ chroma_bytes ++ bare 6) ≡ 11)

-- "then 4 for its lent slices": "all 0 when refused", and the slices stay
abbrev pub Lent : Type 0
Lent =
    (parcel_read_answer (record { parcel = one_parcel; output = record { luma = []; chroma = room.chroma } }) ≡ told 4 0 0 0)
    × (parcel_read_leaves (record { parcel = one_parcel; output = record { luma = []; chroma = room.chroma } }) ≡ record { luma = []; chroma = room.chroma })
