-- 02: "Refusal 8 is shown never to occur." It is so of every call that answers with a number, whatever it is lent.
-- (`safeteal_pixel` and `safeteal_stored` answer a value, and `safeteal_walk_due` a yes or a no: they refuse nothing.)
use Rattle.std.specs.Prelude.{◌≡◌, List, ℕ, ◌≤◌}
use Rattle.rules.specs.Forms.{Layer}
use Rattle.rules.specs.Calls.{StatsCall, FitCall, AssembleCall, DistancesCall, PeelCall, UnpeelCall, RenderCall, ParcelWriteCall, ParcelReadCall, WalkPairCall, WalkLayerCall, MaskCall, ApplyCall, HoldCall}
use Rattle.rules.specs.Refusals.{stats_refusal, fit_refusal, assemble_refusal, distances_refusal, empty_refusal, peel_refusal, unpeel_refusal, render_refusal, parcel_write_refusal, mask_refusal, apply_refusal, hold_refusal}
use Rattle.rules.specs.Host.{number_in}
use Rattle.rules.specs.Parcel.{parcel_read_refusal, parcel_sizes_refusal}
use Rattle.rules.specs.Walk.{walk_start_refusal, walk_pair_refusal, walk_layer_refusal}

-- a number that is another
abbrev pub NotEight : (number : ℕ) → Type 0
NotEight number = (number ≡ 8 → ⊥)

-- the number of a call's refusal, or 0: it is not 8, and a byte holds it
pub record Other (number : ℕ) : Type 0 where
  pub other : NotEight number
  pub byte : number ≤ 255

-- of every call, whatever it is lent
pub record NeverEight : Type 0 where
  pub stats : (c : StatsCall) → Other (stats_refusal c)
  pub fit : (c : FitCall) → Other (fit_refusal c)
  pub distances : (c : DistancesCall) → Other (distances_refusal c)
  pub assemble : (c : AssembleCall) → Other (assemble_refusal c)
  pub peel : (c : PeelCall) → Other (peel_refusal c)
  pub unpeel : (c : UnpeelCall) → Other (unpeel_refusal c)
  pub render : (c : RenderCall) → Other (render_refusal c)
  pub empty : (l : Layer) → Other (empty_refusal l)
  pub mask : (c : MaskCall) → Other (mask_refusal c)
  pub apply : (c : ApplyCall) → Other (apply_refusal c)
  pub hold : (c : HoldCall) → Other (hold_refusal c)
  pub parcel_write : (c : ParcelWriteCall) → Other (parcel_write_refusal c)
  pub parcel_read : (c : ParcelReadCall) → Other (parcel_read_refusal c)
  pub parcel_sizes : (parcel : List ℕ) → Other (parcel_sizes_refusal parcel)
  pub walk_start : (size : ℕ × ℕ) (ratio : ℕ) → Other (walk_start_refusal size ratio)
  pub walk_pair : (c : WalkPairCall) → Other (walk_pair_refusal c)
  pub walk_layer : (c : WalkLayerCall) → Other (walk_layer_refusal c)

-- so of an exported call's answer, "count times 256 plus the refusal number"
abbrev pub NotAnswered : (word : ℕ) → Type 0
NotAnswered word = NotEight (number_in word)
