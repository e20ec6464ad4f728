-- Slices that are filled from a parcel are those of the layer that it holds. Assumes nothing.
use mathlib.Core.Path.{◌≡◌, sym, ◌∙◌}
use mathlib.Core.List.{List, ◌++◌}
use Prim.Native.Nat.{ℕ, ◌*◌, ◌/◌}
use native.Mathlib.Nat.{mul_comm}
use native.Mathlib.Omega.{arith}
use lib.IntN.{ℤ, pos}
use lib.ListN.{length, length-append}
use Rattle.rules.specs.Host.{entry, numbers}
use Rattle.rules.specs.Parcel.{layer_read}
use Rattle.laws.proofs.Lists.{length-tabulate}
use Rattle.table.specs.Put.{Put}
use Rattle.table.proofs.Put.{put_join, put_whole}
use Rattle.parcel_fill.specs.declared.Marks.{Marks}
use Rattle.parcel_fill.specs.Fills.{zeros, mark_at, mark_rows}
use Rattle.parcel_refuse.specs.declared.Contents.{Contents}
use Rattle.parcel_read.specs.Read.{points_of, Opened}

-- ---- how many there are

numbers_long : (payload : List ℕ) (count : ℕ) → length payload ≡ 2 * count → length (numbers payload) ≡ count
unfolding numbers
numbers_long payload count h = let half : length payload / 2 ≡ count = omega arith in length-tabulate (length payload / 2) (entry payload) ∙ half

pub product : {a b c d : ℕ} → a ≡ c → b ≡ d → a * b ≡ c * d
product e f = rw (e, f)

-- ---- two pieces that fill a slice

both_put : {A : Type 0} {before now after piece more : List A} (at : ℕ) → length piece ≡ at → length more ≡ at → length before ≡ 2 * at → Put before 0 piece now → Put now at more after
    → after ≡ piece ++ more
both_put {piece = piece} {more = more} at e f long a b =
    put_whole (put_join a (omega (arith, e)) b) (long ∙ sym (length-append piece more ∙ omega (arith, e, f)))

-- ---- the three slices

module _ (parcel : List ℕ) (s : Contents) (o : Opened parcel s) where
  pub luma_read : {before now after : List ℤ} → length before ≡ 2 * (s.head.width * s.head.height) → Put before 0 (numbers s.payloads.gains.now) now
      → Put now (s.head.width * s.head.height) (numbers s.payloads.offsets.now) after → after ≡ (layer_read parcel).luma
  unfolding layer_read
  luma_read long a b =
      let pixels = s.head.width * s.head.height in
      rw (o.gains.is, o.offsets.is)
      (both_put pixels (numbers_long s.payloads.gains.now pixels o.gains.long) (numbers_long s.payloads.offsets.now pixels o.offsets.long) long a b)

  pub first_read : (points : ℕ) → points ≡ points_of s.head → {before now after : List ℤ} → length before ≡ 2 * points_of s.head → Put before 0 (numbers s.payloads.first.now) now
      → Put now points (zeros points) after → after ≡ (layer_read parcel).chroma.0
  unfolding layer_read
  first_read points e long a b =
      rw (o.first.is, o.is_width, o.is_height, o.is_ratio, ← e)
      (both_put points (numbers_long s.payloads.first.now points (rw e o.first.long)) (length-tabulate points (λ k. pos 0)) (rw e long) a b)

  module _ (across rows : ℕ) (is_across : across ≡ s.head.width / s.head.ratio) (is_rows : rows ≡ s.head.height / s.head.ratio) where
    abbrev marks : Marks
    marks = record { width = s.head.width; height = s.head.height; across = across; rows = rows }

    pub second_read : {before now after : List ℤ} → length before ≡ 2 * points_of s.head → Put before 0 (numbers s.payloads.second.now) now
        → Put now (across * rows) (mark_rows s.payloads.cells.now marks rows) after → after ≡ (layer_read parcel).chroma.1
    unfolding layer_read
    second_read long a b =
        let points : across * rows ≡ points_of s.head = rw (is_across, is_rows) in
        rw (o.second.is, o.marks.is, o.is_width, o.is_height, o.is_ratio, ← is_across, ← is_rows)
        (both_put (across * rows) (numbers_long s.payloads.second.now (across * rows) (rw points o.second.long))
        (length-tabulate (across * rows) (mark_at s.payloads.cells.now marks)) (rw points long) a (rw (mul_comm rows across) at b))
