-- What is known of a parcel that is not refused; a call of the reader by what it is lent, and what the reader tells.
use Rattle.std.specs.Prelude.{◌≡◌, List, ℕ, ◌*◌, ◌/◌, ◌≤◌, ℤ, length, Result, Ok, Err}
use Rattle.rules.specs.declared.Sizes.{Sizes}
use Rattle.rules.specs.declared.Refusal.{Refusal}
use Rattle.rules.specs.Forms.{cells}
use Rattle.rules.specs.Calls.{ParcelReadCall}
use Rattle.rules.specs.Refusals.{number_of}
use Rattle.rules.specs.Parcel.{records, payload_of, parcel_size, parcel_ratio, parcel_read_answer, parcel_read_leaves}
use Rattle.calls.specs.Lent.{fit_of, parcel_read_call}
use Rattle.parcel_refuse.specs.declared.Head.{Head}
use Rattle.parcel_refuse.specs.declared.Contents.{Contents}

-- how many pixels a chroma plane has
abbrev pub points_of : Head → ℕ
points_of h = h.width / h.ratio * (h.height / h.ratio)

-- a payload is that of a kind, of so many numbers
pub record Holds (parcel : List ℕ) (kind : ℕ) (payload : List ℕ) (count : ℕ) : Type 0 where
  pub long : length payload ≡ 2 * count
  pub is : payload_of kind (records parcel) ≡ payload

-- a parcel that is not refused
pub record Opened (parcel : List ℕ) (s : Contents) : Type 0 where
  pub is_width : (parcel_size parcel).0 ≡ s.head.width
  pub is_height : (parcel_size parcel).1 ≡ s.head.height
  pub is_ratio : parcel_ratio parcel ≡ s.head.ratio
  pub wide : (1 ≤ s.head.width) × (s.head.width ≤ 4096)
  pub tall : (1 ≤ s.head.height) × (s.head.height ≤ 4096)
  pub across : (1 ≤ s.head.width / s.head.ratio) × (s.head.width / s.head.ratio ≤ 4096)
  pub down : (1 ≤ s.head.height / s.head.ratio) × (s.head.height / s.head.ratio ≤ 4096)
  pub narrow : cells s.head.width ≤ s.head.width / s.head.ratio
  pub gains : Holds parcel 2 s.payloads.gains.now (s.head.width * s.head.height)
  pub offsets : Holds parcel 3 s.payloads.offsets.now (s.head.width * s.head.height)
  pub first : Holds parcel 4 s.payloads.first.now (points_of s.head)
  pub second : Holds parcel 5 s.payloads.second.now (points_of s.head)
  pub marks : Holds parcel 6 s.payloads.cells.now (cells s.head.width * cells s.head.height)

-- an answer that tells the sizes of a parcel
abbrev pub told_of : Result Head Refusal → Sizes
told_of (Ok h) = record { word = 0; width = h.width; height = h.height; ratio = h.ratio }
told_of (Err r) = record { word = number_of r; width = 0; height = 0; ratio = 0 }

-- a call of the reader
abbrev pub read_by : (parcel : List ℕ) → (luma chroma1 chroma2 : List ℤ) → ParcelReadCall
read_by parcel luma chroma1 chroma2 = parcel_read_call parcel (fit_of luma chroma1 chroma2)

-- what the reader answers, and what it leaves
pub record ReadTold (c : ParcelReadCall) (luma chroma1 chroma2 : List ℤ) (r : Sizes) : Type 0 where
  pub told : r ≡ parcel_read_answer c
  pub luma_left : luma ≡ (parcel_read_leaves c).luma
  pub chroma1_left : chroma1 ≡ (parcel_read_leaves c).chroma.0
  pub chroma2_left : chroma2 ≡ (parcel_read_leaves c).chroma.1
