-- "Domain": what sizes, pitches, lengths and settings must be; lengths are "reckoned in whole numbers, never wrapped".
use Rattle.std.specs.Prelude.{◌&&◌, ◌||◌, ◌+◌, ◌-◌, ◌*◌, ◌/◌, ◌%◌}
use Rattle.rules.specs.Words.{Bool, List, ℕ, leb, eqb, ℤ, pos, neg_ℤ, le_z, length, Float}
use Rattle.rules.specs.Forms.{Plane, Motion, Slot, Part, Fit, Layer, Mask, cells, area, shrunk, each, is_number}
use Rattle.rules.specs.Literals.{0·0, 1·0}
use Rattle.rules.specs.Float.{within}

-- "Width and height 1 to 4096."
abbrev pub is_size : ℕ → Bool
is_size n = leb 1 n && leb n 4096

-- both sizes
abbrev pub are_sizes : ℕ × ℕ → Bool
are_sizes size = is_size size.0 && is_size size.1

-- "1, 2 or 4, dividing both"
abbrev pub is_ratio : ℕ → ℕ × ℕ → Bool
is_ratio ratio size = (eqb ratio 1 || eqb ratio 2 || eqb ratio 4) && eqb (size.0 % ratio) 0 && eqb (size.1 % ratio) 0

-- "Pitches from the row's width to 65,536."
abbrev pub is_pitch : (pitch width : ℕ) → Bool
is_pitch pitch width = leb width pitch && leb pitch 65536

-- ---- lengths; a size is luma's width and height

-- "A byte plane has at least (rows-1) times pitch plus row width bytes."
abbrev pub plane_length : (pitch : ℕ) → ℕ × ℕ → ℕ
plane_length pitch size = (size.1 - 1) * pitch + size.0

-- "A layer's luma slice has at least 2 times pitch times height numbers"
abbrev pub layer_length : (pitch height : ℕ) → ℕ
layer_length pitch height = 2 * (pitch * height)

-- "each chroma slice 2 times chroma pitch times chroma rows"
abbrev pub layer_chroma_length : (pitch rows : ℕ) → ℕ
layer_chroma_length pitch rows = 2 * (pitch * rows)

-- "six f32 sums per luma pixel"
abbrev pub sums_length : ℕ × ℕ → ℕ
sums_length size = 6 * area size

-- "two per chroma pixel in a slice for each chroma plane"
abbrev pub chroma_sums_length : ℕ × ℕ → (ratio : ℕ) → ℕ
chroma_sums_length size ratio = 2 * area (shrunk size ratio)

-- an output of fit and assemble: "Luma holds all gains, then all offsets."
abbrev pub fit_length : ℕ × ℕ → ℕ
fit_length size = 2 * area size

-- and one for each chroma plane, a "second half" behind its offsets
abbrev pub fit_chroma_length : ℕ × ℕ → (ratio : ℕ) → ℕ
fit_chroma_length size ratio = 2 * area (shrunk size ratio)

-- "A model slice holds four f32 per luma pixel"
abbrev pub models_length : ℕ × ℕ → ℕ
models_length size = 4 * area size

-- the second of "Fit's work slices", which says what is kept: "one byte per luma pixel"
abbrev pub kept_length : ℕ × ℕ → ℕ
kept_length size = area size

-- "A cover has width/8 times height/8 bytes, each quotient rounded up."
abbrev pub cover_length : ℕ × ℕ → ℕ
cover_length size = cells size.0 * cells size.1

-- "motion fields .. have exact lengths": a number for each block of the grid
abbrev pub field_length : ℕ × ℕ → ℕ
field_length grid = area grid

-- "masks have exact lengths": what `mask` fills, a byte per pixel
abbrev pub mask_length : ℕ × ℕ → ℕ
mask_length size = area size

-- a parcel (02): six records, each a "payload length (four bytes), kind (two bytes)" and a payload: the head's "two
-- bytes each" for three numbers, and "two bytes signed" for each gain, offset and cell
abbrev pub parcel_length : ℕ × ℕ → (ratio : ℕ) → ℕ
parcel_length size ratio = 6 * 6 + 6 + 2 * (2 * area size + 2 * area (shrunk size ratio) + cover_length size)

-- ---- slices of these lengths

-- a byte plane
abbrev pub is_plane : Plane → ℕ × ℕ → Bool
is_plane p size = leb (plane_length p.pitch size) (length p.bytes)

-- the pitches, and the lengths, of some byte planes of this width and height
abbrev pub have_pitches : List Plane → ℕ × ℕ → Bool
have_pitches planes size = each (λ p. is_pitch p.pitch size.0) planes

abbrev pub have_lengths : List Plane → ℕ × ℕ → Bool
have_lengths planes size = each (λ p. is_plane p size) planes

-- three slices of exact lengths, one for luma and one for both of chroma
abbrev pub are_exact : {A : Type 0} → List A → List A × List A → (lengths : ℕ × ℕ) → Bool
are_exact luma chroma lengths =
    eqb (length luma) lengths.0 && eqb (length chroma.0) lengths.1 && eqb (length chroma.1) lengths.1

-- the sums of a part
abbrev pub are_sums : Part → ℕ × ℕ → (ratio : ℕ) → Bool
are_sums p size ratio = are_exact p.luma p.chroma (sums_length size, chroma_sums_length size ratio)

-- the sums of each of a walk's parts (02), three of which are lent, whether a chunk lies there or not
abbrev pub are_slots : List Slot → ℕ × ℕ → (ratio : ℕ) → Bool
are_slots slots size ratio = each (λ s. are_exact s.0 (s.1, s.2) (sums_length size, chroma_sums_length size ratio)) slots

-- outputs of fit and assemble
abbrev pub is_fit : Fit → ℕ × ℕ → (ratio : ℕ) → Bool
is_fit f size ratio = are_exact f.luma f.chroma (fit_length size, fit_chroma_length size ratio)

-- a model slice
abbrev pub are_models : List Float → ℕ × ℕ → Bool
are_models models size = eqb (length models) (models_length size)

-- a cover
abbrev pub is_cover : List ℕ → ℕ × ℕ → Bool
is_cover cover size = eqb (length cover) (cover_length size)

-- a layer's two pitches
abbrev pub layer_pitches : Layer → Bool
layer_pitches l = is_pitch l.pitch.0 l.size.0 && is_pitch l.pitch.1 (l.size.0 / l.ratio)

-- and its three slices
abbrev pub layer_lengths : Layer → Bool
layer_lengths l =
    leb (layer_length l.pitch.0 l.size.1) (length l.luma)
    && leb (layer_chroma_length l.pitch.1 (l.size.1 / l.ratio)) (length l.chroma.0)
    && leb (layer_chroma_length l.pitch.1 (l.size.1 / l.ratio)) (length l.chroma.1)

-- motion's four fields
abbrev pub motion_lengths : Motion → Bool
motion_lengths m =
    eqb (length m.forward.0) (field_length m.grid) && eqb (length m.forward.1) (field_length m.grid)
    && eqb (length m.backward.0) (field_length m.grid) && eqb (length m.backward.1) (field_length m.grid)

-- whether z is from lo to hi
abbrev pub spans : (lo hi z : ℤ) → Bool
spans lo hi z = le_z lo z && le_z z hi

-- "pel 1, 2 or 4"
abbrev pub is_pel : ℤ → Bool
is_pel z = is_number z 1 || is_number z 2 || is_number z 4

-- "Motion grid sides 1 to 4096, block sides 1 to 128, origins -4096 to 4096, pel 1, 2 or 4."
abbrev pub motion_numbers : Motion → Bool
motion_numbers m =
    let side = spans (pos 1) (pos 128) in
    let origin = spans (neg_ℤ (pos 4096)) (pos 4096) in
    are_sizes m.grid && side m.block.0 && side m.block.1 && origin m.origin.0 && origin m.origin.1 && is_pel m.pel

-- "Time 0 to 1"
abbrev pub is_time : Float → Bool
is_time t = within t 0·0 1·0

-- a "whole step of 1..8" from one side to another
abbrev pub is_step : (side whole : ℕ) → Bool
is_step side whole = eqb (side * (whole / side)) whole && leb 1 (whole / side) && leb (whole / side) 8

-- "mask width is step times width, mask length mask width times height times its own step"
abbrev pub are_steps : Mask → ℕ × ℕ → Bool
are_steps mask size = is_step size.0 mask.width && is_step (mask.width * size.1) (length mask.bytes)
