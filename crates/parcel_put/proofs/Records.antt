-- Records and their rows of numbers, put piece after piece. Assumes nothing.
use mathlib.Core.Path.{◌≡◌, refl, sym, ap, ◌∙◌}
use mathlib.Core.List.{List, [], ◌∷◌, ◌++◌}
use Prim.Native.Nat.{ℕ, zero, suc, ◌+◌, ◌*◌, ◌/◌, ◌%◌, ◌^◌, ◌≤◌, ◌<◌}
use native.Mathlib.Nat.{pow-suc, add-mul, one-mul, suc-mul, mul_comm, mul-le-mul_left, mul-le-mul_right}
use native.Mathlib.Numerals.{add-one}
use native.Mathlib.Omega.{arith}
use lib.Arith.{digits_div, digits_mod}
use lib.IntN.{ℤ}
use lib.ListN.{length, take, length-append}
use Rattle.std.specs.Int.{w64, byte_at, bytes_low_first, to_le_bytes}
use Rattle.std.proofs.Math.Nat.{div-div-eq-div-mul}
use Rattle.rules.specs.Forms.{tabulate}
use Rattle.rules.specs.Parcel.{in_bytes, bits, written, record_bytes, head_bytes}
use Rattle.laws.proofs.Bytes.{length-in_bytes, written-append, written_last}
use Rattle.laws.proofs.Lists.{table_same, tabulate-add, tabulate_last}
use Rattle.laws.proofs.Parcels.{length_head, length_table, length_rows}
use Rattle.table.specs.Put.{Put}
use Rattle.table.proofs.Put.{put_none, put_join, put_as}
use Rattle.parcel_put.specs.declared.Run.{Run}
use Rattle.parcel_put.specs.Runs.{row_of, entry_of, first_of, run_of, RunFits}

-- ---- the lowest bytes of a number

byte_is : (i n : ℕ) → byte_at i n ≡ n / 256 ^ i % 256
byte_is zero n = let e : n / 1 ≡ n = omega arith in rw e
byte_is (suc i) n = refl

bytes_from : (i k n : ℕ) → bytes_low_first i k n ≡ in_bytes k (n / 256 ^ i)
unfolding in_bytes
bytes_from i zero n = refl
bytes_from i (suc k) n =
    let next : n / 256 ^ suc i ≡ n / 256 ^ i / 256 = rw (pow-suc 256 i) (sym (div-div-eq-div-mul n (256 ^ i) 256)) in
    rw (byte_is i n, bytes_from (suc i) k n, next)

first_bytes : (i k m n : ℕ) → k ≤ m → take k (bytes_low_first i m n) ≡ bytes_low_first i k n
first_bytes i zero m n h = refl
first_bytes i (suc k) zero n h = absurd (omega arith)
first_bytes i (suc k) (suc m) n h = ap (λ (l : List ℕ). byte_at i n ∷ l) (first_bytes (suc i) k m n (omega arith))

-- as the library has them
pub low_bytes : (k n : ℕ) → k ≤ 8 → take k (to_le_bytes w64 n) ≡ in_bytes k n
low_bytes k n h =
    let whole : n / 1 ≡ n = omega arith in
    first_bytes 0 k 8 n h ∙ rw whole at (bytes_from 0 k n)

-- such a number behind a piece
then_two : {before now after piece : List ℕ} {at next : ℕ} (size n : ℕ) → Put before at piece now → length piece ≡ size → next ≡ at + size
    → Put now next (in_bytes 2 n) after → Put before at (piece ++ in_bytes 2 n) after
then_two size n first long e second = put_join first (rw long e) second

-- ---- records

pub start_put : {before now after : List ℕ} {at : ℕ} (size kind : ℕ) → Put before at (in_bytes 4 size) now → Put now (at + 4) (in_bytes 2 kind) after
    → Put before at (in_bytes 4 size ++ in_bytes 2 kind) after
start_put size kind a b = then_two 4 kind a (length-in_bytes 4 size) refl b

record_put : {before now after payload : List ℕ} {at : ℕ} (size kind : ℕ) → Put before at (in_bytes 4 size ++ in_bytes 2 kind) now → size ≡ length payload
    → Put now (at + 6) payload after → Put before at (record_bytes (record { kind = kind; payload = payload })) after
record_put {payload = payload} {at = at} size kind start e rest =
    put_join (put_as start (ap (λ (n : ℕ). in_bytes 4 n ++ in_bytes 2 kind) e)) long rest
  where
    long : at + 6 ≡ at + length (in_bytes 4 (length payload) ++ in_bytes 2 kind)
    long = rw (length-append (in_bytes 4 (length payload)) (in_bytes 2 kind), length-in_bytes 4 (length payload), length-in_bytes 2 kind)

pub head_put : {before start first second after : List ℕ} (size : ℕ × ℕ) (ratio : ℕ) → Put before 0 (in_bytes 4 6 ++ in_bytes 2 1) start → Put start 6 (in_bytes 2 size.0) first
    → Put first 8 (in_bytes 2 size.1) second → Put second 10 (in_bytes 2 ratio) after
    → Put before 0 (record_bytes (record { kind = 1; payload = head_bytes size ratio })) after
head_put size ratio start a b c =
    let both = then_two 2 size.1 a (length-in_bytes 2 size.0) refl b in
    let long : length (in_bytes 2 size.0 ++ in_bytes 2 size.1) ≡ 4 = simp (length-append, length-in_bytes) in
    record_put 6 1 start (sym (length_head size ratio)) (then_two 4 ratio both long refl c)

-- ---- rows of numbers

-- none yet
pub none_put : (l : List ℕ) (at : ℕ) (f : ℕ → ℤ) → Put l at (written (tabulate 0 f)) l
unfolding tabulate written
none_put l at f = put_none l at

-- a number more
pub number_put : {before now after : List ℕ} {at : ℕ} (x : ℕ) (f : ℕ → ℤ) → Put before at (written (tabulate x f)) now → Put now (at + 2 * x) (in_bytes 2 (bits (f x))) after
    → Put before at (written (tabulate (x + 1) f)) after
number_put {at = at} x f done more =
    put_as (put_join done (rw (length_table x f)) more) (sym (ap written (tabulate_last x f) ∙ written_last (tabulate x f) (f x)))

-- a row more: entry x of it is what stands in row y and column x
module _ (numbers : List ℤ) (from pitch width y : ℕ) where
  row_is : first_of numbers from pitch width (y + 1) ≡ first_of numbers from pitch width y ++ row_of numbers (from + y * pitch) width
  row_is =
      let at = entry_of numbers from pitch in
      let e : (y + 1) * width ≡ y * width + width = add-mul y 1 width ∙ rw (one-mul width) in
      let row = table_same width (λ x. at ((y * width + x) % width) ((y * width + x) / width)) (λ x. at x y) (λ x h. rw (digits_mod y h, digits_div y h)) in
      rw (e, tabulate-add (y * width) width (λ k. at (k % width) (k / width)), row)

  pub row_put : {before now after : List ℕ} {at : ℕ} → Put before at (written (first_of numbers from pitch width y)) now
      → Put now (at + 2 * (y * width)) (written (row_of numbers (from + y * pitch) width)) after → Put before at (written (first_of numbers from pitch width (y + 1))) after
  row_put done more =
      let entry = entry_of numbers from pitch in
      put_as (put_join done (rw (length_table (y * width) (λ k. entry (k % width) (k / width)))) more)
      (sym (ap written row_is ∙ written-append (first_of numbers from pitch width y) (row_of numbers (from + y * pitch) width)))

-- ---- a record of a run

pub run_put : {before now after : List ℕ} {at : ℕ} (kind : ℕ) (numbers : List ℤ) (r : Run) → Put before at (in_bytes 4 (2 * (r.width * r.rows)) ++ in_bytes 2 kind) now
    → Put now (at + 6) (written (run_of numbers r)) after → Put before at (record_bytes (record { kind = kind; payload = written (run_of numbers r) })) after
run_put kind numbers r start rest =
    record_put (2 * (r.width * r.rows)) kind start (sym (length_rows (r.width, r.rows) (entry_of numbers r.from r.pitch))) rest

-- ---- where the rows of a run lie

row_in : (y rows pitch width : ℕ) → y < rows → width ≤ pitch → y * pitch + width ≤ pitch * rows
row_in y rows pitch width below narrow = omega (arith, suc-mul y pitch, mul-le-mul_right pitch below, mul_comm rows pitch)

-- row y: its bytes within the output, its numbers within the slice
pub record RowFits (output : List ℕ) (at : ℕ) (numbers : List ℤ) (r : Run) (y : ℕ) : Type 0 where
  pub room : at + 2 * (y * r.width) + 2 * r.width ≤ length output
  pub inside : r.from + y * r.pitch + r.width ≤ length numbers
  pub narrow : y * r.width ≤ y * r.pitch

pub row_fits : (output : List ℕ) (at : ℕ) (numbers : List ℤ) (r : Run) (y : ℕ) → RunFits output at numbers r → y < r.rows → RowFits output at numbers r y
row_fits output at numbers r y f below =
    record {
      room = omega (arith, f.room, row_in y r.rows r.width r.width below (omega arith));
      inside = omega (arith, f.inside, row_in y r.rows r.pitch r.width below f.narrow);
      narrow = mul-le-mul_left y f.narrow;
    }
