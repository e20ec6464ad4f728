-- The round trip, of what the exported calls' contracts say. Assumes nothing.
use mathlib.Core.Path.{◌≡◌, ◌∙◌}
use mathlib.Core.List.{List}
use Prim.Native.Nat.{ℕ}
use native.Mathlib.Omega.{arith}
use lib.IntN.{ℤ}
use Rattle.rules.specs.Forms.{Layer, uncounted}
use Rattle.rules.specs.Refusals.{parcel_write_refusal}
use Rattle.rules.specs.Parcel.{parcel_write_leaves, parcel_sizes_answer}
use Rattle.calls.specs.Lent.{fit_of, parcel_write_call}
use Rattle.told.specs.Told.{Told}
use Rattle.parcel_read.specs.Read.{read_by, ReadTold}
use Rattle.parcel_trip.specs.Trip.{Short}
use Rattle.parcel_trip.proofs.Trip.{round_trip}
use Rattle.parcel_host.specs.declared.Answers.{Answers}
use Rattle.parcel_host.specs.Desks.{SentTold}

-- the writer's contract of its answer and its slice, and the readers' of that slice
pub sent_told : (l : Layer) (before parcel : List ℕ) (luma chroma1 chroma2 luma' chroma1' chroma2' : List ℤ) (a : Answers) → Short l
    → Told (uncounted (parcel_write_refusal (parcel_write_call l before))) (parcel_write_leaves (parcel_write_call l before)) parcel a.written
    → a.sizes ≡ parcel_sizes_answer parcel → ReadTold (read_by parcel luma chroma1 chroma2) luma' chroma1' chroma2' a.read
    → SentTold l (fit_of luma chroma1 chroma2) (fit_of luma' chroma1' chroma2') a
sent_told l before parcel luma chroma1 chroma2 luma' chroma1' chroma2' a short w s r none fits =
    let e : parcel_write_refusal (parcel_write_call l before) ≡ 0 = omega (arith, w.told, none) in
    let b = rw (← w.slice) at (round_trip (parcel_write_call l before) short e (fit_of luma chroma1 chroma2) fits) in
    record {
      sizes = s ∙ b.sizes;
      told = r.told ∙ b.told;
      layer = rw (r.luma_left, r.chroma1_left, r.chroma2_left) b.layer;
    }
