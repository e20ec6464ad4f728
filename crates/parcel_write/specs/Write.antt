-- A call of the writer by what it is lent; and what the writer tells.
use Rattle.std.specs.Prelude.{◌≡◌, List, ℕ, ◌*◌, ◌/◌, ◌≤◌, length, Result}
use Rattle.rules.specs.declared.Refusal.{Refusal}
use Rattle.rules.specs.Calls.{ParcelWriteCall}
use Rattle.rules.specs.Refusals.{numbered, parcel_write_refusal}
use Rattle.rules.specs.Parcel.{parcel_write_leaves}
use Rattle.calls.specs.Lent.{parcel_write_call}
use Rattle.plane.specs.Slices.{slice}
use Rattle.layer_lent.specs.declared.Shape.{Shape}
use Rattle.layer_lent.specs.Lent.{Numbers, lay, Formed, Held}

-- a call of the writer
abbrev pub write_by : Shape → Held → (parcel : List ℕ) → ParcelWriteCall
write_by s held parcel = parcel_write_call (lay s held) parcel

-- a layer that is not refused
pub record Fitting (s : Shape) (numbers : Numbers) : Type 0 where
  pub formed : Formed s
  pub luma_long : 2 * (s.luma_pitch * s.height) ≤ length (slice numbers 0)
  pub first_long : 2 * (s.chroma_pitch * (s.height / s.ratio)) ≤ length (slice numbers 1)
  pub second_long : 2 * (s.chroma_pitch * (s.height / s.ratio)) ≤ length (slice numbers 2)

-- what the writer answers, and what it leaves
pub record WriteTold (c : ParcelWriteCall) (left : List ℕ) (r : Result Unit Refusal) : Type 0 where
  pub told : numbered r ≡ parcel_write_refusal c
  pub slice : left ≡ parcel_write_leaves c
