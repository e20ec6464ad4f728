-- What holds along a walk: the slots hold the parts of the chunks that were begun last. Assumes nothing.
use mathlib.Core.Path.{◌≡◌, refl, sym, subst, ◌∙◌}
use mathlib.Core.Bool.{Bool, true, false, cond}
use mathlib.Core.List.{List, [], ◌∷◌, ◌++◌, append-nil, append_assoc}
use Prim.Native.Nat.{ℕ, suc, ◌+◌, ◌*◌, ◌/◌, ◌%◌, ◌≤◌, ◌<◌}
use native.Mathlib.Nat.{add-zero, add_assoc}
use native.Mathlib.Omega.{arith}
use borrow.Author.Tests.{eqb-true, eqb-false}
use lib.Dec.{eqb}
use lib.ListN.{length, length-append, length-set}
use lib.Seq.{get_or-set_same, get_or-set_other}
use Rattle.rules.specs.declared.Walk.{Walk}
use Rattle.rules.specs.Forms.{Pair, Slot, Part, part}
use Rattle.rules.specs.Calls.{WalkPairCall}
use Rattle.rules.specs.Stats.{stats_sums}
use Rattle.rules.specs.Walk.{pairs_in, slot, walk_size, moved, pair_stats, walk_pair_refusal, pair_slots, walk_layer_refusal}
use Rattle.calls.specs.Lent.{walk_pair_call}
use Rattle.walk_whole.specs.Calls.{Stand, Asked, Call, pair_call, layer_call, taken, after, after_all, given, clip, one, layers}
use Rattle.walk_whole.specs.Whole.{whole_part}
use Rattle.walk_whole.proofs.Chunks.{afresh, part_last, part_before, part_none}

-- so many pairs are in the chunk of the next one, and then one more
next_pairs : (n : ℕ) → pairs_in (n + 1) (n / 12) ≡ suc (pairs_in n (n / 12))
next_pairs n = omega arith

-- two numbers are one or are not
pub either : {A : Type 0} (m n : ℕ) → (m ≡ n → A) → ((m ≡ n → ⊥) → A) → A
either {A} m n same other = go (eqb m n) (eqb-true m n) (eqb-false m n)
  where
    go : (t : Bool) → (t ≡ true → m ≡ n) → (t ≡ false → m ≡ n → ⊥) → A
    go true f g = same (f refl)
    go false f g = other (g refl)

module _ (w : Walk) where
  abbrev whole : List Pair → ℕ → Part
  whole xs c = whole_part (walk_size w) w.ratio xs c

  -- slots that hold the parts of a clip's chunks, of those that were begun and not dropped
  pub record Holds (xs : List Pair) (slots : List Slot) : Type 0 where
    pub three : length slots ≡ 3
    pub sums : (c : ℕ) → 12 * c < length xs → length xs ≤ 12 * (c + 3) → part (slot slots c) (pairs_in (length xs) c) ≡ whole xs c

  -- ---- a pair more

  module _ (xs : List Pair) (n : ℕ) (slots : List Slot) (h : Holds xs slots) (number : ℕ) (p : Pair) where
    abbrev long : ℕ
    long = length xs

    abbrev own : ℕ
    own = long / 12

    abbrev call : WalkPairCall
    call = walk_pair_call (moved w long n) slots number p

    -- its chunk's part
    summed_own : stats_sums (pair_stats call) ≡ whole (xs ++ p ∷ []) own
    summed_own =
        either (12 * own) long
        (λ e. let few : pairs_in long own ≡ 0 = omega (arith, e) in
        rw (few, part_last (walk_size w) w.ratio xs p own (omega arith) (omega arith), part_none (walk_size w) w.ratio xs own (omega (arith, e)))
        (afresh (walk_size w) w.ratio (slot slots own) p))
        (λ f. rw (h.sums own (omega (arith, f)) (omega arith)) (sym (part_last (walk_size w) w.ratio xs p own (omega arith) (omega arith))))

    -- the slot of its chunk is set
    set_own : part (slot (pair_slots call) own) (suc (pairs_in long own)) ≡ stats_sums (pair_stats call)
    unfolding pair_slots stats_sums
    set_own = rw (get_or-set_same slots (own % 3) _ ([], [], []) (rw h.three (omega arith)))

    -- and no other
    set_other : (c : ℕ) → (c % 3 ≡ own % 3 → ⊥) → slot (pair_slots call) c ≡ slot slots c
    unfolding pair_slots
    set_other c f = get_or-set_other slots (own % 3) (c % 3) _ ([], [], []) f

    holds_pair : Holds (xs ++ p ∷ []) (pair_slots call)
    unfolding pair_slots
    holds_pair = record { three = length-set slots (own % 3) _ ∙ h.three; sums = sums }
      where
        more : length (xs ++ p ∷ []) ≡ long + 1
        more = length-append xs (p ∷ [])

        sums : (c : ℕ) → 12 * c < length (xs ++ p ∷ []) → length (xs ++ p ∷ []) ≤ 12 * (c + 3)
            → part (slot (pair_slots call) c) (pairs_in (length (xs ++ p ∷ [])) c) ≡ whole (xs ++ p ∷ []) c
        sums c a b =
            let a' : 12 * c < long + 1 = rw more at a in
            let b' : long + 1 ≤ 12 * (c + 3) = rw more at b in
            either c own
            (λ e. rw (e, more, next_pairs long) (set_own ∙ summed_own))
            (λ f. let done : 12 * (c + 1) ≤ long = omega (arith, f) in
            let same : pairs_in (long + 1) c ≡ pairs_in long c = omega (arith, done) in
            rw (more, same, set_other c (λ e. omega (arith, e, f, b', done)), part_before (walk_size w) w.ratio xs (p ∷ []) c done)
            (h.sums c (omega arith) (omega (arith, b'))))

-- ---- along a walk: w at its start, that was handed the pairs xs and gave n layers

pub record Along (w : Walk) (xs : List Pair) (n : ℕ) (s : Stand) : Type 0 where
  pub walk_is : s.walk ≡ moved w (length xs) n
  pub holds : Holds w xs s.slots

module _ (w : Walk) where
  along_pair : (xs : List Pair) (n : ℕ) (slots : List Slot) (h : Holds w xs slots) (number : ℕ) (p : Pair)
      → let s : Stand = record { walk = moved w (length xs) n; slots = slots } in Along w (xs ++ given s (pair_call number p)) (n + 0) (after s (pair_call number p))
  along_pair xs n slots h number p = go (eqb (walk_pair_refusal (walk_pair_call (moved w (length xs) n) slots number p)) 0)
    where
      go : (t : Bool)
          → let c = walk_pair_call (moved w (length xs) n) slots number p in
          Along w (xs ++ cond t (p ∷ []) []) (n + 0) (record { walk = cond t (moved c.walk (length xs + 1) n) c.walk; slots = cond t (pair_slots c) slots })
      go true = record { walk_is = rw (length-append xs (p ∷ []), add-zero n); holds = holds_pair w xs n slots h number p }
      go false = rw (append-nil xs, add-zero n) (record { walk_is = refl; holds = h })

  along_layer : (xs : List Pair) (n : ℕ) (slots : List Slot) (h : Holds w xs slots) (asked : Asked)
      → let s : Stand = record { walk = moved w (length xs) n; slots = slots } in Along w (xs ++ []) (n + one s (layer_call asked)) (after s (layer_call asked))
  along_layer xs n slots h asked = rw (append-nil xs) (go (eqb (walk_layer_refusal (taken s asked)) 0))
    where
      s : Stand
      s = record { walk = moved w (length xs) n; slots = slots }

      go : (t : Bool) → Along w xs (n + cond t 1 0) (record { walk = cond t (moved s.walk (length xs) (n + 1)) s.walk; slots = slots })
      go true = record { walk_is = refl; holds = h }
      go false = rw (add-zero n) (record { walk_is = refl; holds = h })

  along_call : (xs : List Pair) (n : ℕ) (s : Stand) → Along w xs n s → (c : Call) → Along w (xs ++ given s c) (n + one s c) (after s c)
  along_call xs n s h (pair_call number p) =
      subst (λ (k : Walk). let s' : Stand = record { walk = k; slots = s.slots } in Along w (xs ++ given s' (pair_call number p)) (n + 0) (after s' (pair_call number p)))
      (sym h.walk_is) (along_pair xs n s.slots h.holds number p)
  along_call xs n s h (layer_call asked) =
      subst (λ (k : Walk). let s' : Stand = record { walk = k; slots = s.slots } in Along w (xs ++ []) (n + one s' (layer_call asked)) (after s' (layer_call asked)))
      (sym h.walk_is) (along_layer xs n s.slots h.holds asked)

  pub along_all : (xs : List Pair) (n : ℕ) (s : Stand) → Along w xs n s → (calls : List Call) → Along w (xs ++ clip s calls) (n + layers s calls) (after_all s calls)
  unfolding clip layers after_all
  along_all xs n s h [] = rw (append-nil xs, add-zero n) h
  along_all xs n s h (c ∷ rest) =
      rw (← append_assoc xs (given s c) (clip (after s c) rest), ← add_assoc n (one s c) (layers (after s c) rest))
      (along_all (xs ++ given s c) (n + one s c) (after s c) (along_call xs n s h c) rest)

-- a call behind calls
pub behind : (s : Stand) (calls : List Call) (c : Call) → after_all s (calls ++ c ∷ []) ≡ after (after_all s calls) c
unfolding after_all
behind s [] c = refl
behind s (d ∷ rest) c = behind (after s d) rest c
