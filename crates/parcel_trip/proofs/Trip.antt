-- A layer that was written into a parcel is read back from it. Assumes nothing.
use mathlib.Core.Path.{◌≡◌, refl}
use mathlib.Core.Bool.{true}
use mathlib.Core.List.{List, []}
use Prim.Native.Nat.{ℕ}
use Rattle.rules.specs.Forms.{Fit, Layer}
use Rattle.rules.specs.Calls.{ParcelWriteCall}
use Rattle.rules.specs.Domain.{is_fit}
use Rattle.rules.specs.Refusals.{first_fitting, layer_rows, parcel_write_refusal}
use Rattle.rules.specs.Parcel.{Record, records, is_whole, kinds_right, payload_of, lengths_right, layer_records}
use Rattle.rules.specs.Parcel.{parcel_of, parcel_size, parcel_ratio, sizes_answer, parcel_sizes_refusal, parcel_sizes_answer, parcel_read_refusal, parcel_read_answer}
use Rattle.laws.proofs.Accepted.{row_right, sizes_in, ratio_in}
use Rattle.laws.proofs.Parcels.{parcel_long}
use Rattle.parcel_trip.specs.Trip.{Short, Back, RoundTrip, ParcelLong}
use Rattle.parcel_trip.proofs.Read.{Sound, Tells, whole_parcel, records_parcel, kinds_right_lem, head_tells, lengths_right_lem, layer_read_lem}
use Rattle.parcel_trip.proofs.Arrived.{arrived}

-- ---- a parcel of whole records that are right

module _ (parcel : List ℕ) (list : List Record) (size : ℕ × ℕ) (ratio : ℕ) (whole : is_whole parcel ≡ true) (same : records parcel ≡ list)
    (kinds : kinds_right list ≡ true) (lengths : lengths_right list ≡ true) (head : Tells (payload_of 1 list) size ratio) where
  kinds_so : kinds_right (records parcel) ≡ true
  kinds_so = rw same kinds

  lengths_so : lengths_right (records parcel) ≡ true
  lengths_so = rw same lengths

  head_so : Tells (payload_of 1 (records parcel)) size ratio
  head_so = rw same head

  -- the parcel alone is accepted
  sizes_passed : parcel_sizes_refusal parcel ≡ 0
  unfolding parcel_sizes_refusal first_fitting
  sizes_passed = rw (whole, kinds_so, lengths_so)

  sizes_told : parcel_sizes_answer parcel ≡ sizes_answer 0 size ratio
  sizes_told = rw (sizes_passed, head_so.wide, head_so.tall, head_so.shrunk)

  module _ (output : Fit) (fits : is_fit output size ratio ≡ true) where
    -- and with slices of the layer's lengths
    fits_so : is_fit output (parcel_size parcel) (parcel_ratio parcel) ≡ true
    fits_so = rw (head_so.wide, head_so.tall, head_so.shrunk) fits

    read_passed : parcel_read_refusal (record { parcel = parcel; output = output }) ≡ 0
    unfolding parcel_read_refusal first_fitting
    read_passed = rw (whole, kinds_so, lengths_so, fits_so)

    read_told : parcel_read_answer (record { parcel = parcel; output = output }) ≡ sizes_answer 0 size ratio
    read_told = rw (read_passed, head_so.wide, head_so.tall, head_so.shrunk)

-- ---- a layer's own parcel

-- the writer accepts only layers of sizes and a ratio in 01's domain
sound : (w : ParcelWriteCall) → parcel_write_refusal w ≡ 0 → Sound w.layer
unfolding parcel_write_refusal
sound w e =
    let l = w.layer in
    let ok = row_right (layer_rows l 0 [] _) refl e in
    let sides = sizes_in l.size (ok 1 _ refl) in
    record { sizes = ok 1 _ refl; ratio = ok 2 _ refl; sides = sides; shrinks = ratio_in l.size l.ratio sides (ok 2 _ refl) }

-- its parcel is read back
back : (l : Layer) → Short l → Sound l → (output : Fit) → is_fit output l.size l.ratio ≡ true → Back l (record { parcel = parcel_of l; output = output })
back l short s output fits =
    let whole = whole_parcel l s in
    let same = records_parcel l s in
    let kinds = kinds_right_lem l in
    let lengths = lengths_right_lem l s in
    let head = head_tells l s in
    let passed = read_passed (parcel_of l) (layer_records l) l.size l.ratio whole same kinds lengths head output fits in
    record {
      sizes = sizes_told (parcel_of l) (layer_records l) l.size l.ratio whole same kinds lengths head;
      told = read_told (parcel_of l) (layer_records l) l.size l.ratio whole same kinds lengths head output fits;
      layer = rw (passed, layer_read_lem l short s) (arrived l s);
    }

-- and that is what the writer wrote
pub round_trip : RoundTrip
round_trip w short e output fits = rw e (back w.layer short (sound w e) output fits)

pub long : ParcelLong
long = parcel_long
