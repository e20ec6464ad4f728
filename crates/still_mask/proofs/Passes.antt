-- A call of mask that is not refused can be run, and its three passes make the table. Assumes nothing.
use mathlib.Core.Path.{◌≡◌, refl, ◌∙◌}
use mathlib.Core.Bool.{Bool, true, false, cond}
use mathlib.Core.List.{List, [], ◌∷◌}
use Prim.Native.Nat.{ℕ, ◌+◌, ◌-◌, ◌*◌, ◌/◌, ◌%◌, ◌≤◌, ◌<◌}
use native.Mathlib.Nat.{suc-mul, mul_comm}
use native.Mathlib.Omega.{arith}
use borrow.Author.Tests.{eqb-true}
use lib.Dec.{eqb}
use lib.ListN.{length, get_or}
use Rattle.rules.specs.Forms.{Plane, tabulate}
use Rattle.rules.specs.Calls.{Settings}
use Rattle.rules.specs.Refusals.{mask_refusal}
use Rattle.rules.specs.Still.{same_at, full_corner as full, still}
use Rattle.still_pass.specs.Pass.{PlaneIn}
use Rattle.still_pass.specs.Table.{RowsStored}
use Rattle.laws.proofs.Accepted.{row_right, sizes_in}
use Rattle.still_pass.proofs.Accepted.{first_in}
use Rattle.laws.proofs.Lists.{get_or-tabulate, is_table}
use Rattle.still_pass.proofs.Tables.{table, table_length, table_at}
use Rattle.still_same.specs.Same.{same_bit}
use Rattle.still_corner.specs.Corner.{full_by, still_by, both_bits, Holds, RowsMarked}
use Rattle.calls.specs.Lent.{mask_call}

-- ---- bits

odd_bit : (b : Bool) → eqb (cond b 1 0 % 2) 1 ≡ b
odd_bit true = refl
odd_bit false = refl

half_both : (b : Bool) (n : ℕ) → (cond b 1 0 + 2 * n) / 2 ≡ n
half_both true n = omega arith
half_both false n = omega arith

-- ---- a call

-- what its passes ask
abbrev pub Runs : (first second : Plane) → (width height : ℕ) → (filled : List ℕ) → Type 0
Runs first second width height filled =
    PlaneIn filled width (width, height)
    × PlaneIn first.bytes first.pitch (width, height)
    × PlaneIn second.bytes second.pitch (width, height)
    × (1 ≤ width)
    × (length filled ≡ width * height)

module _ (first second : Plane) (width height : ℕ) (s : Settings) where
  -- the first pass stores the plane of yes and no
  pub holds : (before after : List ℕ) → RowsStored width (same_bit first second (width, height) s) height before after → length before ≡ width * height
      → Holds (same_at first second (width, height) s) (width, height) after
  holds before after done long =
      record {
        odd = λ x y p q.
            rw (table_at width (same_bit first second (width, height) s) height before after done long x y 0 p q)
            (odd_bit (same_at first second (width, height) s x y));
      }

  answer_is : (x y : ℕ) → still_by (same_at first second (width, height) s) (width, height) x y ≡ still first second (width, height) s x y
  unfolding still full still_by full_by
  answer_is x y = refl

  -- the second puts the answers above it, and the third leaves them alone
  pub answers : (before after last : List ℕ) → length before ≡ width * height
      → RowsMarked (same_at first second (width, height) s) (width, height) height before after
      → length last ≡ length after → ((k : ℕ) → k < length last → get_or last k 0 ≡ get_or after k 0 / 2)
      → last ≡ tabulate (width * height) (λ k. still first second (width, height) s (k % width) (k / width))
  answers before after last long marked left halved =
      let same = same_at first second (width, height) s in
      let bits = both_bits same (width, height) in
      let whole = table_length width bits height before after marked.stored long in
      let e = table width bits height before after marked.stored long in
      is_table (width * height) (λ k. still first second (width, height) s (k % width) (k / width)) last 0
      (left ∙ whole)
      (λ k h. rw (halved k (rw (left, whole) h))
      (rw (e, get_or-tabulate (width * height) (λ j. bits (j % width) (j / width)) k 0 h, half_both (same (k % width) (k / width)) (still_by same (width, height) (k % width) (k / width)))
      (answer_is (k % width) (k / width))))

  -- where it is not refused, they can be run
  pub runs : (filled : List ℕ) → mask_refusal (mask_call first second width height s filled) ≡ 0 → Runs first second width height filled
  unfolding mask_refusal
  runs filled e =
      let size : ℕ × ℕ = (width, height) in
      let ok = row_right _ refl e in
      let p = first_in first (second ∷ []) size (ok 0 _ refl) (ok 1 _ refl) (ok 2 _ refl) in
      let q = first_in second [] size (ok 0 _ refl) p.1 p.2 in
      let z = sizes_in size (ok 0 _ refl) in
      let long = eqb-true (length filled) (width * height) (ok 3 _ refl) in
      let rows = rows_are height width z.1.0 in
      (record { narrow = z.0.1; low = z.1.1; apart = omega (arith, z.0.1); inside = omega arith }, p.0, q.0, z.0.0, long)
    where
      rows_are : (h w : ℕ) → 1 ≤ h → (h - 1) * w + w ≡ w * h
      rows_are h w some =
          let e : h - 1 + 1 ≡ h = omega arith in
          let m : (h - 1 + 1) * w ≡ h * w = rw e in
          omega (arith, suc-mul (h - 1) w, mul_comm h w)
