-- A pair that a walk is handed: refused, or added to the slot of its chunk. Assumes nothing.
use mathlib.Core.Path.{◌≡◌, sym, subst, ◌∙◌}
use mathlib.Core.Bool.{Bool}
use mathlib.Core.List.{List, [], ◌∷◌}
use Prim.Native.Nat.{ℕ, ◌+◌, ◌%◌}
use native.Mathlib.Omega.{arith}
use lib.ListN.{length, set}
use Rattle.std.specs.Prelude.{Ok, Err}
use lib.Ieee.{Float}
use Rattle.rules.specs.declared.Walk.{Walk}
use Rattle.rules.specs.declared.Refusal.{Refusal}
use Rattle.rules.specs.Forms.{Slot, absent}
use Rattle.rules.specs.Calls.{WalkPairCall, StatsCall}
use Rattle.rules.specs.Domain.{are_slots}
use Rattle.rules.specs.Refusals.{◌unless◌, Table, number_of, first_fitting, pair_rows, stats_refusal}
use Rattle.rules.specs.Walk.{chunk_of, pairs_in, is_turn, slot, walk_size, moved, pair_stats, walk_pair_refusal, pair_slots}
use Rattle.calls.specs.Lent.{slots_of}
use Rattle.laws.proofs.Answered.{number_some}
use Rattle.told.specs.Told.{PairTold}
use Rattle.stats_refuse.specs.declared.Numbers.{Numbers}
use Rattle.stats_refuse.specs.declared.Pair.{Pair}
use Rattle.stats_refuse.specs.Call.{call_by, stats_by}
use Rattle.stats.specs.Answered.{Added}
use Rattle.walk_laws.proofs.Accepted.{stats_right, turn}
use Rattle.walk_laws.proofs.Due.{few_layers}
use Rattle.walk_state.specs.Counts.{Room, are_long, told_by}
use Rattle.walk_state.proofs.Numbers.{told, by_lengths}
use Rattle.walk_pair.specs.Call.{chunk_numbers, handed_by}

-- a refusal by other names of its numbers and of what holds of its sums
pub by_names : (p : Pair) {m n : Numbers} {long sums : Bool} (rows : Table) {r : ℕ} → m ≡ n → sums ≡ long
    → first_fitting (pair_rows (call_by absent p m) sums rows) ≡ r → r ≡ first_fitting (pair_rows (call_by absent p n) long rows)
by_names p rows e f is = sym is ∙ rw (e, f)

-- as many pairs are in the chunk of the next one
in_chunk : (added : ℕ) → pairs_in added (chunk_of added) ≡ added % 12
in_chunk added = omega arith

module _ (w : Walk) (slots : List Slot) (p : Pair) (number : ℕ) where
  abbrev call : WalkPairCall
  call = handed_by w slots p number

  -- the call of stats on a slot
  abbrev on : Slot → StatsCall
  on s = stats_by s.0 s.1 s.2 p (chunk_numbers w)

  pub number_is : (long : Bool) → long ≡ are_slots slots (walk_size w) w.ratio → {r : ℕ}
      → r ≡ first_fitting (pair_rows (call_by absent p (chunk_numbers w)) long ((12 unless is_turn w number) ∷ [])) → r ≡ walk_pair_refusal call
  unfolding walk_pair_refusal
  number_is long e is = rw (← e) is

  pub refused : (r : Refusal) → number_of r ≡ walk_pair_refusal call → PairTold call slots (told_by (Err r) w)
  refused r is = let t = number_some r in record { told = rw (← is, t, ← told (number_of r)); slots_left = rw (← is, t) }

  -- the clip has one pair more
  pub more : 0 ≡ walk_pair_refusal call → Room w 1 0
  more e = let t = turn call (sym e) in record { added = omega (arith, t.more); taken = omega (arith, few_layers w t.left) }

  module _ (s : Slot) (at : slot slots (chunk_of w.added) ≡ s) where
    own : pair_stats call ≡ on s
    own = rw (at, in_chunk w.added)

    -- stats takes the pair
    pub taken : length slots ≡ 3 → 0 ≡ walk_pair_refusal call → stats_refusal (on s) ≡ 0
    taken three e = rw (← own) (stats_right call three (sym e))

    pub ran : 0 ≡ walk_pair_refusal call → {m : Numbers} → m ≡ chunk_numbers w → (j : ℕ) → chunk_of w.added % 3 ≡ j
        → (luma chroma1 chroma2 : List Float) → Added (stats_by s.0 s.1 s.2 p m) luma chroma1 chroma2
        → (next : Walk) → next ≡ moved w (w.added + 1) (w.taken + 0) → PairTold call (set slots j (luma, chroma1, chroma2)) (told_by (Ok next) w)
    unfolding pair_slots
    ran e named j k luma chroma1 chroma2 added next is =
        let sums : Added (on s) luma chroma1 chroma2 =
        subst (λ (m : Numbers). Added (stats_by s.0 s.1 s.2 p m) luma chroma1 chroma2) named added in
        let none : w.taken + 0 ≡ w.taken = omega arith in
        record { told = rw (is, none, ← e); slots_left = rw (← e, own, ← k, sums.luma_is, sums.chroma1_is, sums.chroma2_is) }

-- the number of a refusal, by the lengths of the nine slices
pub number_by : (w : Walk) (p : Pair) (number : ℕ) (a b c d e f g h i : List Float) {r : ℕ}
    → r ≡ first_fitting (pair_rows (call_by absent p (chunk_numbers w))
    (are_long ((length a ∷ length b ∷ length c ∷ []) ∷ (length d ∷ length e ∷ length f ∷ []) ∷ (length g ∷ length h ∷ length i ∷ []) ∷ []) w) ((12 unless is_turn w number) ∷ []))
    → r ≡ walk_pair_refusal (handed_by w (slots_of a b c d e f g h i) p number)
number_by w p number a b c d e f g h i is =
    number_is w (slots_of a b c d e f g h i) p number _ (by_lengths w a b c d e f g h i) is
