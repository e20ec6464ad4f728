-- A layer that is taken from a walk: refused, or fitted from the slots of its chunk and of the chunks beside it.
-- Assumes nothing.
use mathlib.Core.Path.{◌≡◌, refl, sym, subst, ◌∙◌}
use mathlib.Core.Bool.{Bool, true, false, cond, ◌&&◌, false≢true}
use mathlib.Core.List.{List, [], ◌∷◌}
use Prim.Native.Nat.{ℕ, zero, suc, ◌+◌, ◌-◌, ◌%◌, ◌≤◌}
use native.Mathlib.Omega.{arith}
use borrow.Author.Tests.{eqb-false, ltb-false}
use lib.Dec.{eqb, ltb}
use lib.ListN.{get_or}
use lib.IntN.{ℤ}
use lib.Ieee.{Float}
use Rattle.std.specs.Prelude.{Ok, Err}
use Rattle.rules.specs.declared.Walk.{Walk}
use Rattle.rules.specs.declared.Refusal.{Refusal}
use Rattle.rules.specs.Forms.{Slot, Part, Parts, Fit, part, absent}
use Rattle.rules.specs.Calls.{FitCall, WalkLayerCall}
use Rattle.rules.specs.Refusals.{◌unless◌, Table, number_of, first_fitting, size_rows, work_rows, fit_refusal}
use Rattle.rules.specs.Fit.{fit_leaves}
use Rattle.rules.specs.Walk.{chunks, pairs_in, is_left, is_due, slot, part_in, around, walk_size, moved, parts_due, layer_fit, walk_layer_refusal, walk_layer_leaves}
use Rattle.calls.specs.Lent.{parts_of, fit_of}
use Rattle.laws.proofs.Accepted.{row_right}
use Rattle.laws.proofs.Answered.{number_some}
use Rattle.told.specs.Told.{LayerTold}
use Rattle.plane.specs.Slices.{Slices, at, slice}
use Rattle.fit_trial.specs.declared.Settings.{Settings}
use Rattle.fit_refuse.specs.declared.Numbers.{Numbers}
use Rattle.fit_refuse.specs.Call.{fit_with, fit_by}
use Rattle.assemble_store.specs.Entries.{Stored}
use Rattle.walk_laws.proofs.Due.{Due}
use Rattle.walk_laws.proofs.Accepted.{due, fit_right}
use Rattle.walk_laws.proofs.Unseen.{of, Alike, alike_trans, previous_unseen, next_unseen}
use Rattle.walk_state.specs.Counts.{Room, counts_of, are_long, told_by}
use Rattle.walk_state.proofs.Numbers.{told, by_lengths}
use Rattle.walk_layer.specs.Call.{numbers_of, slots_by, lengths_by, order_by, taken_by}

-- ---- the parts by their slots

module _ (c : FitCall) (w : Walk) (d : Due w) (slots : List Slot) (before own after : Slot) where
  abbrev previous : Part
  previous = cond (eqb w.taken 0) absent (part_in w slots (w.taken - 1))

  -- the previous part: none, or that of a chunk which is complete
  first : ((w.taken ≡ 0 → ⊥) → slot slots (w.taken - 1) ≡ before) → (mid next : Part)
      → Alike (of c (parts_of (part before (cond (eqb w.taken 0) 0 12)) mid next)) (of c (parts_of previous mid next))
  first at mid next = go (eqb w.taken 0) (eqb-false w.taken 0)
    where
      go : (t : Bool) → (t ≡ false → w.taken ≡ 0 → ⊥)
          → Alike (of c (parts_of (part before (cond t 0 12)) mid next)) (of c (parts_of (cond t absent (part_in w slots (w.taken - 1))) mid next))
      go true f = previous_unseen c before ([], [], []) mid next
      go false f =
          let some = f refl in
          let whole : pairs_in w.added (w.taken - 1) ≡ 12 = omega (arith, d.begun) in
          rw (at some, whole) (record { refusal = refl; layer = refl })

  -- the next part: that of a chunk, or none
  last : slot slots (w.taken + 1) ≡ after → (previous mid : Part)
      → Alike (of c (parts_of previous mid (part after (pairs_in w.added (w.taken + 1)))))
      (of c (parts_of previous mid (cond (ltb (w.taken + 1) (chunks w.pairs)) (part_in w slots (w.taken + 1)) absent)))
  last at previous mid = go (ltb (w.taken + 1) (chunks w.pairs)) (ltb-false (w.taken + 1) (chunks w.pairs))
    where
      go : (t : Bool) → (t ≡ false → chunks w.pairs ≤ w.taken + 1)
          → Alike (of c (parts_of previous mid (part after (pairs_in w.added (w.taken + 1))))) (of c (parts_of previous mid (cond t (part_in w slots (w.taken + 1)) absent)))
      go true f = rw at (record { refusal = refl; layer = refl })
      go false f =
          let end = f refl in
          let none : pairs_in w.added (w.taken + 1) ≡ 0 = omega (arith, d.inside, end) in
          rw none (next_unseen c after ([], [], []) previous mid)

  -- fits of these slots are fits of the parts that are due
  due_alike : ((w.taken ≡ 0 → ⊥) → slot slots (w.taken - 1) ≡ before) → slot slots w.taken ≡ own → slot slots (w.taken + 1) ≡ after
      → Alike (of c (parts_of (part before (cond (eqb w.taken 0) 0 12)) (part own (pairs_in w.added w.taken)) (part after (pairs_in w.added (w.taken + 1)))))
      (of c (parts_due w slots))
  unfolding around
  due_alike p o n =
      rw o
      (alike_trans (first p (part own (pairs_in w.added w.taken)) (part after (pairs_in w.added (w.taken + 1)))) (last n previous (part own (pairs_in w.added w.taken))))

-- ---- the call

-- the rows of fit by another name of its numbers
pub by_name : (parts : Parts) (models : List Float) (kept cover : List ℕ) (output : Fit) (rows : Table) {m n : Numbers} {r : ℕ} → m ≡ n
    → first_fitting (work_rows (fit_with parts m models kept cover output) rows) ≡ r → r ≡ first_fitting (work_rows (fit_with parts n models kept cover output) rows)
by_name parts models kept cover output rows e is = sym is ∙ rw e

module _ (w : Walk) (sums : Slices Float) (s : Settings) (models : List Float) (kept cover : List ℕ) (output : Fit) where
  abbrev call : WalkLayerCall
  call = taken_by w sums s models kept cover output

  -- what its table answers for behind the sums
  abbrev rows : Table
  rows = work_rows (fit_with (parts_due w (slots_by sums)) (numbers_of w (0 ∷ 0 ∷ 0 ∷ []) s) models kept cover output) ((12 unless is_left w && is_due w) ∷ [])

  -- by the tests of the sums, and by those behind them
  pub number_is : {lengths : List (List ℕ)} → lengths ≡ lengths_by sums → {r : ℕ}
      → first_fitting (size_rows (walk_size w) w.ratio ((4 unless are_long lengths w) ∷ rows)) ≡ r → r ≡ walk_layer_refusal call
  unfolding walk_layer_refusal
  number_is e is =
      let at = slice sums in
      sym is ∙ rw (e, by_lengths w (at 0) (at 1) (at 2) (at 3) (at 4) (at 5) (at 6) (at 7) (at 8))

  pub refused : (r : Refusal) → number_of r ≡ walk_layer_refusal call → LayerTold call models kept cover output (told_by (Err r) w)
  unfolding walk_layer_leaves
  refused r is =
      let t = number_some r in
      record {
        told = rw (← is, t, ← told (number_of r));
        output_left = rw (← is, t);
        models_stay = λ f. refl;
        kept_stays = λ f. refl;
        cover_stays = λ f. refl;
      }

  pub is_due_lem : 0 ≡ walk_layer_refusal call → (is_left w && is_due w) ≡ true
  unfolding walk_layer_refusal
  is_due_lem e = row_right _ refl (sym e) 9 _ refl

  -- the clip has one layer more
  pub room : 0 ≡ walk_layer_refusal call → Room w 0 1
  room e = let d = due call (sym e) in record { added = omega (arith, d.inside); taken = omega (arith, d.exists) }

  -- ---- fit, on the slots in the order of the parts

  -- its numbers and its sums by their names
  module _ (e : 0 ≡ walk_layer_refusal call) {m : Numbers} (named : m ≡ numbers_of w (counts_of w) s) {order : Slices Float} (placed : order ≡ order_by sums (w.taken % 3)) where
    abbrev on : Slices Float → FitCall
    on order = fit_by order m models kept cover output

    -- slots in their places
    in_order : (order : Slices Float) → let t = slots_by order in
        ((w.taken ≡ 0 → ⊥) → slot (slots_by sums) (w.taken - 1) ≡ get_or t 0 ([], [], [])) → slot (slots_by sums) w.taken ≡ get_or t 1 ([], [], [])
        → slot (slots_by sums) (w.taken + 1) ≡ get_or t 2 ([], [], []) → Alike (on order) (layer_fit call)
    in_order order p o n =
        let t = slots_by order in
        subst (λ (m : Numbers). Alike (fit_by order m models kept cover output) (layer_fit call)) (sym named)
        (due_alike (layer_fit call) w (due call (sym e)) (slots_by sums) (get_or t 0 ([], [], [])) (get_or t 1 ([], [], [])) (get_or t 2 ([], [], [])) p o n)

    -- the chunk lies in slot 0, 1 or 2
    in_place : (k : ℕ) → w.taken % 3 ≡ k → k ≤ 2 → Alike (on (order_by sums k)) (layer_fit call)
    in_place zero k h =
        let after : (w.taken + 1) % 3 ≡ 1 = omega arith in
        in_order (order_by sums 0) (λ f. let before : (w.taken - 1) % 3 ≡ 2 = omega (arith, f) in rw before) (rw k) (rw after)
    in_place (suc zero) k h =
        let after : (w.taken + 1) % 3 ≡ 2 = omega arith in
        let before : (w.taken - 1) % 3 ≡ 0 = omega arith in
        in_order (order_by sums 1) (λ f. rw before) (rw k) (rw after)
    in_place (suc (suc zero)) k h =
        let after : (w.taken + 1) % 3 ≡ 0 = omega arith in
        let before : (w.taken - 1) % 3 ≡ 1 = omega arith in
        in_order (order_by sums 2) (λ f. rw before) (rw k) (rw after)
    in_place (suc (suc (suc n))) k h = absurd (omega arith)

    alike : Alike (on order) (layer_fit call)
    alike = rw placed (in_place (w.taken % 3) refl (omega arith))

    pub asks : fit_refusal (on order) ≡ 0
    asks = alike.refusal ∙ fit_right call refl (sym e)

    pub ran : (models' : List Float) (kept' cover' : List ℕ) (luma chroma1 chroma2 : List ℤ) → Stored (fit_leaves (on order)) luma chroma1 chroma2
        → (next : Walk) → next ≡ moved w (w.added + 0) (w.taken + 1) → LayerTold call models' kept' cover' (fit_of luma chroma1 chroma2) (told_by (Ok next) w)
    unfolding walk_layer_leaves
    ran models' kept' cover' luma chroma1 chroma2 done next is =
        let none : w.added + 0 ≡ w.added = omega arith in
        record {
          told = rw (is, none, ← e);
          output_left = rw (← e, ← alike.layer, done.luma_is, done.first_is, done.second_is);
          models_stay = λ f. absurd (false≢true (sym f ∙ rw (← e)));
          kept_stays = λ f. absurd (false≢true (sym f ∙ rw (← e)));
          cover_stays = λ f. absurd (false≢true (sym f ∙ rw (← e)));
        }
