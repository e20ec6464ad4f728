-- Demand 3 where the layer is lent as bytes: what fit left is written as bytes, and the later call reads the numbers
-- that these stand for.
use Rattle.std.specs.Prelude.{◌≡◌, true, List, [], ◌∷◌, ℤ, pos, neg_ℤ}
use Rattle.rules.specs.Forms.{Fit, Layer, each}
use Rattle.rules.specs.Calls.{FitCall}
use Rattle.rules.specs.Refusals.{fit_refusal}
use Rattle.rules.specs.Host.{numbers}
use Rattle.rules.specs.Parcel.{is_short, written}
use Rattle.rules.specs.Fit.{fit_leaves}
use Rattle.rules.specs.Reading.{as_left}
use Rattle.evidence.specs.Evidence.{FitTwice, Keeps}

-- ---- numbers as bytes: `written` of Parcel.antt

-- bytes that were written so stand for the numbers that were written
abbrev pub ReadBack : Type 0
ReadBack = (list : List ℤ) → each is_short list ≡ true → numbers (written list) ≡ list

-- ---- layers as bytes

-- the numbers of three slices, each written as bytes and read from them
abbrev pub through_bytes : Fit → Fit
through_bytes f = record { luma = numbers (written f.luma); chroma = (numbers (written f.chroma.0), numbers (written f.chroma.1)) }

-- an accepted fit leaves numbers of 16 bits alone, so its slices are the same when they went through bytes
abbrev pub LeftShort : Type 0
LeftShort = (c : FitCall) → fit_refusal c ≡ 0 → through_bytes (fit_leaves c) ≡ fit_leaves c

-- the "layer as fit left it", lent as bytes
abbrev pub layer_in_bytes : FitCall → Layer
layer_in_bytes c = as_left (through_bytes (fit_leaves c)) c.size c.ratio

-- demand 3 of the two layers in bytes
abbrev pub DemandThreeBytes : Type 0
DemandThreeBytes = (first second : FitCall) → FitTwice first second → fit_refusal first ≡ 0 → fit_refusal second ≡ 0
    → Keeps (layer_in_bytes first) (layer_in_bytes second)

-- ---- by example: numbers at both ends and about 0, and their bytes

abbrev pub some : List ℤ
some = pos 0 ∷ pos 1 ∷ pos 258 ∷ pos 32767 ∷ neg_ℤ (pos 1) ∷ neg_ℤ (pos 2) ∷ neg_ℤ (pos 32768) ∷ []

pub record Example : Type 0 where
  pub bytes : written some ≡ 0 ∷ 0 ∷ 1 ∷ 0 ∷ 2 ∷ 1 ∷ 255 ∷ 127 ∷ 255 ∷ 255 ∷ 254 ∷ 255 ∷ 0 ∷ 128 ∷ []
  pub short : each is_short some ≡ true
  pub read : numbers (written some) ≡ some
