-- What is known of a parcel that is not refused, and of its reader's refusal. Assumes nothing.
use mathlib.Core.Path.{◌≡◌, refl, sym, ◌∙◌}
use mathlib.Core.Bool.{Bool, true, false, cond, not, ◌&&◌}
use mathlib.Core.List.{List, []}
use Prim.Native.Nat.{ℕ, ◌+◌, ◌*◌}
use native.Mathlib.Omega.{arith}
use borrow.Author.Tests.{eqb-true}
use lib.Dec.{eqb}
use lib.IntN.{ℤ}
use lib.ListN.{length}
use Rattle.std.proofs.lemmas.Bool.{and_parts}
use Rattle.std.specs.Prelude.{Ok, Err}
use Rattle.rules.specs.declared.Refusal.{Refusal}
use Rattle.rules.specs.declared.Refusal.TheVariants.{Length}
use Rattle.rules.specs.Forms.{turns, all, cells}
use Rattle.rules.specs.Domain.{are_sizes, is_ratio, is_fit}
use Rattle.rules.specs.Refusals.{number_of, parcel_rows}
use Rattle.rules.specs.Parcel.{records, is_whole, kinds_right, payload_of, head_size, head_ratio, is_head}
use Rattle.rules.specs.Parcel.{are_long, lengths_right, layer_read, parcel_size, parcel_ratio, parcel_sizes_refusal, parcel_read_refusal}
use Rattle.calls.specs.Lent.{fit_of}
use Rattle.laws.proofs.Answered.{number_some}
use Rattle.laws.proofs.Accepted.{row_right, sizes_in, ratio_in, cells_in, Side, Shrinks}
use Rattle.table.proofs.Refusals.{late}
use Rattle.parcel_refuse.specs.declared.Contents.{Contents}
use Rattle.parcel_refuse.specs.declared.Head.{Head}
use Rattle.parcel_refuse.specs.Surveys.{Seen}
use Rattle.parcel_read.specs.Read.{points_of, Holds, Opened, told_of, read_by, ReadTold}

-- ---- a payload of the length that its head calls for

holds : (parcel : List ℕ) (kind : ℕ) (payload : List ℕ) (count : ℕ) → payload_of kind (records parcel) ≡ payload → eqb (length (payload_of kind (records parcel))) (2 * count) ≡ true
    → Holds parcel kind payload count
holds parcel kind payload count is e = record { long = rw is at (eqb-true (length (payload_of kind (records parcel))) (2 * count) e); is = is }

module _ (parcel : List ℕ) (s : Contents) (seen : Seen parcel s) (accepted : 0 ≡ parcel_sizes_refusal parcel) where
  -- ---- its head

  width_is : (parcel_size parcel).0 ≡ s.head.width
  width_is = sym seen.width

  height_is : (parcel_size parcel).1 ≡ s.head.height
  height_is = sym seen.height

  ratio_is : parcel_ratio parcel ≡ s.head.ratio
  ratio_is = sym seen.ratio

  lengths : lengths_right (records parcel) ≡ true
  unfolding parcel_sizes_refusal
  lengths = row_right (parcel_rows (is_whole parcel) (kinds_right (records parcel)) (lengths_right (records parcel)) []) refl (sym accepted) 2 (lengths_right (records parcel)) refl

  tested : (is_head (payload_of 1 (records parcel)) ≡ true) × (are_long (records parcel) (s.head.width, s.head.height) s.head.ratio ≡ true)
  unfolding lengths_right
  tested =
      let head = payload_of 1 (records parcel) in
      let t = and_parts (is_head head) (are_long (records parcel) (head_size head) (head_ratio head)) lengths in
      (t.0, rw (width_is, height_is, ratio_is) at t.1)

  sides : Side s.head.width × Side s.head.height
  sides =
      let head = payload_of 1 (records parcel) in
      let t = and_parts (eqb (length head) 6 && are_sizes (head_size head)) (is_ratio (head_ratio head) (head_size head)) tested.0 in
      sizes_in (s.head.width, s.head.height) (rw (width_is, height_is) at (and_parts (eqb (length head) 6) (are_sizes (head_size head)) t.0).1)

  shrinks : Shrinks (s.head.width, s.head.height) s.head.ratio
  shrinks =
      let head = payload_of 1 (records parcel) in
      let t = and_parts (eqb (length head) 6 && are_sizes (head_size head)) (is_ratio (head_ratio head) (head_size head)) tested.0 in
      ratio_in (s.head.width, s.head.height) s.head.ratio sides (rw (width_is, height_is, ratio_is) at t.1)

  -- ---- its payloads

  abbrev long : (kind count : ℕ) → Bool
  long kind count = eqb (length (payload_of kind (records parcel))) (2 * count)

  pixels : ℕ
  pixels = s.head.width * s.head.height

  marks : ℕ
  marks = cells s.head.width * cells s.head.height

  each_long : (long 2 pixels ≡ true) × (long 3 pixels ≡ true) × (long 4 (points_of s.head) ≡ true) × (long 5 (points_of s.head) ≡ true) × (long 6 marks ≡ true)
  unfolding turns all pixels marks
  each_long =
      let f = and_parts (long 2 pixels && long 3 pixels && long 4 (points_of s.head) && long 5 (points_of s.head)) (long 6 marks) tested.1 in
      let q = and_parts (long 2 pixels && long 3 pixels && long 4 (points_of s.head)) (long 5 (points_of s.head)) f.0 in
      let t = and_parts (long 2 pixels && long 3 pixels) (long 4 (points_of s.head)) q.0 in
      let d = and_parts (long 2 pixels) (long 3 pixels) t.0 in
      (d.0, d.1, t.1, q.1, f.1)

  pub opened : Opened parcel s
  unfolding pixels marks
  opened =
      let at = seen.held in
      let e = each_long in
      let r = shrinks in
      record {
        is_width = width_is;
        is_height = height_is;
        is_ratio = ratio_is;
        wide = sides.0;
        tall = sides.1;
        across = r.across;
        down = r.down;
        narrow = cells_in s.head.width s.head.ratio r.few.1 r.whole_across;
        gains = holds parcel 2 s.payloads.gains.now pixels at.gains e.0;
        offsets = holds parcel 3 s.payloads.offsets.now pixels at.offsets e.1;
        first = holds parcel 4 s.payloads.first.now (points_of s.head) at.first e.2;
        second = holds parcel 5 s.payloads.second.now (points_of s.head) at.second e.3;
        marks = holds parcel 6 s.payloads.cells.now marks at.cells e.4;
      }

-- ---- the reader's answer, and what it leaves

plain : (n : ℕ) → 0 * 256 + n ≡ n
plain n = omega arith

module _ (parcel : List ℕ) (luma chroma1 chroma2 : List ℤ) where
  abbrev fit : Bool
  fit = is_fit (fit_of luma chroma1 chroma2) (parcel_size parcel) (parcel_ratio parcel)

  -- its refusal is that of the parcel, and then 4
  refusal_late : parcel_read_refusal (read_by parcel luma chroma1 chroma2) ≡ cond (eqb (parcel_sizes_refusal parcel) 0) (cond (not fit) 4 0) (parcel_sizes_refusal parcel)
  unfolding parcel_read_refusal parcel_sizes_refusal
  refusal_late = late (parcel_rows (is_whole parcel) (kinds_right (records parcel)) (lengths_right (records parcel)) []) refl 4 fit

  told_no : (r : Refusal) → number_of r ≡ parcel_read_refusal (read_by parcel luma chroma1 chroma2)
      → ReadTold (read_by parcel luma chroma1 chroma2) luma chroma1 chroma2 (told_of (Err r))
  told_no r e =
      let q = number_some r in
      record { told = rw (← e, q, plain (number_of r)); luma_left = rw (← e, q); chroma1_left = rw (← e, q); chroma2_left = rw (← e, q) }

  pub read_no : (r : Refusal) → number_of r ≡ parcel_sizes_refusal parcel → ReadTold (read_by parcel luma chroma1 chroma2) luma chroma1 chroma2 (told_of (Err r))
  read_no r e = told_no r (sym (refusal_late ∙ rw (← e, number_some r)))

  -- the slices have their lengths
  abbrev pub are_exact : Head → Bool
  are_exact h = eqb (length luma) (2 * (h.width * h.height)) && eqb (length chroma1) (2 * points_of h) && eqb (length chroma2) (2 * points_of h)

  module _ (s : Contents) (o : Opened parcel s) (accepted : 0 ≡ parcel_sizes_refusal parcel) where
    fit_is : fit ≡ are_exact s.head
    fit_is = rw (o.is_width, o.is_height, o.is_ratio)

    pub read_short : are_exact s.head ≡ false → ReadTold (read_by parcel luma chroma1 chroma2) luma chroma1 chroma2 (told_of (Err Length))
    read_short e = told_no Length (sym (refusal_late ∙ rw (← accepted, fit_is, e)))

    pub read_yes : are_exact s.head ≡ true → {luma' chroma1' chroma2' : List ℤ} → luma' ≡ (layer_read parcel).luma → chroma1' ≡ (layer_read parcel).chroma.0
        → chroma2' ≡ (layer_read parcel).chroma.1 → ReadTold (read_by parcel luma chroma1 chroma2) luma' chroma1' chroma2' (told_of (Ok s.head))
    read_yes e a b c =
        let none : parcel_read_refusal (read_by parcel luma chroma1 chroma2) ≡ 0 = refusal_late ∙ rw (← accepted, fit_is, e) in
        record {
          told = rw (none, o.is_width, o.is_height, o.is_ratio);
          luma_left = a ∙ rw none;
          chroma1_left = b ∙ rw none;
          chroma2_left = c ∙ rw none;
        }
