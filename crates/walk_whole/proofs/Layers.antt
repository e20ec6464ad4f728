-- Each layer of a walk is the one of the clip held together. Assumes nothing.
use mathlib.Core.Path.{◌≡◌, refl, sym, subst, ◌∙◌}
use mathlib.Core.Bool.{Bool, true, false, cond, false≢true}
use mathlib.Core.Logic.{◌⊎◌, inl, inr}
use mathlib.Core.List.{List, [], ◌∷◌, ◌++◌, append-nil, append_assoc}
use Prim.Native.Nat.{ℕ, ◌+◌, ◌-◌, ◌*◌, ◌≤◌, ◌<◌}
use native.Mathlib.Nat.{zero-add}
use native.Mathlib.Omega.{arith}
use borrow.Author.Tests.{ltb-true, eqb-true}
use lib.Dec.{ltb, eqb}
use lib.ListN.{length}
use Rattle.rules.specs.declared.Walk.{Walk}
use Rattle.rules.specs.Forms.{Pair, Slot, Part, absent}
use Rattle.rules.specs.Calls.{WalkPairCall}
use Rattle.rules.specs.Domain.{are_sizes}
use Rattle.rules.specs.Walk.{chunks, part_in, around, walk_size, moved, started, walk_start_refusal, walk_pair_refusal, pair_slots, walk_layer_refusal, walk_layer_leaves}
use Rattle.calls.specs.Lent.{walk_pair_call}
use Rattle.laws.proofs.Accepted.{row_right}
use Rattle.walk_laws.proofs.Due.{Due}
use Rattle.walk_laws.proofs.Accepted.{turn, due, fit_right}
use Rattle.walk_whole.specs.Calls.{Stand, Asked, Call, pair_call, layer_call, taken, after, after_all, given, clip, layers}
use Rattle.walk_whole.specs.Whole.{whole_part, whole_fit, Same, EachLayer}
use Rattle.walk_whole.proofs.Chunks.{part_before}
use Rattle.walk_whole.proofs.Along.{Holds, Along, along_all}

-- ---- a clip that is complete gets no pair more

full_call : (s : Stand) → s.walk.added ≡ s.walk.pairs → (number : ℕ) (p : Pair) → walk_pair_refusal (walk_pair_call s.walk s.slots number p) ≡ 0 → ⊥
full_call s full number p e = let t = turn (walk_pair_call s.walk s.slots number p) e in omega (arith, full, t.more)

pub full : (s : Stand) → s.walk.added ≡ s.walk.pairs → (calls : List Call) → clip s calls ≡ []
unfolding clip
full s e [] = refl
full s e (pair_call number p ∷ rest) = go (eqb (walk_pair_refusal c) 0) (eqb-true (walk_pair_refusal c) 0) (full s e rest)
  where
    c : WalkPairCall
    c = walk_pair_call s.walk s.slots number p

    go : (t : Bool) → (t ≡ true → walk_pair_refusal c ≡ 0) → clip s rest ≡ []
        → cond t (p ∷ []) [] ++ clip (record { walk = cond t (moved s.walk (s.walk.added + 1) s.walk.taken) s.walk; slots = cond t (pair_slots c) s.slots }) rest ≡ []
    go true f again = absurd (full_call s e number p (f refl))
    go false f again = again
full s e (layer_call asked ∷ rest) = go (eqb (walk_layer_refusal (taken s asked)) 0) (λ k h. full k h rest)
  where
    go : (t : Bool) → ((k : Stand) → k.walk.added ≡ k.walk.pairs → clip k rest ≡ [])
        → clip (record { walk = cond t (moved s.walk s.walk.added (s.walk.taken + 1)) s.walk; slots = s.slots }) rest ≡ []
    go true again = again _ e
    go false again = again s e

-- a clip of calls and of those behind them
clip-append : (s : Stand) (a b : List Call) → clip s (a ++ b) ≡ clip s a ++ clip (after_all s a) b
unfolding clip after_all
clip-append s [] b = refl
clip-append s (c ∷ rest) b = rw (clip-append (after s c) rest b) (sym (append_assoc (given s c) (clip (after s c) rest) (clip (after_all (after s c) rest) b)))

-- ---- the parts of a layer that is taken

module _ (w : Walk) (xs ys : List Pair) (n : ℕ) (slots : List Slot) (h : Holds w xs slots) (behind : length xs ≡ w.pairs → ys ≡ []) where
  abbrev at : Walk
  at = moved w (length xs) n

  abbrev whole : ℕ → Part
  whole c = whole_part (walk_size w) w.ratio (xs ++ ys) c

  module _ (d : Due at) where
    -- the chunks of the parts that are fitted stay as they are
    stays : (c : ℕ) → c ≤ n + 1 → whole c ≡ whole_part (walk_size w) w.ratio xs c
    stays c k = go d.complete
      where
        go : (12 * (n + 2) ≤ length xs) ⊎ (length xs ≡ w.pairs) → whole c ≡ whole_part (walk_size w) w.ratio xs c
        go (inl l) = part_before (walk_size w) w.ratio xs ys c (omega (arith, l, k))
        go (inr e) = rw (behind e, append-nil xs)

    same_part : (c : ℕ) → 12 * c < length xs → n ≤ c + 1 → c ≤ n + 1 → part_in at slots c ≡ whole c
    same_part c a b k = h.sums c a (omega (arith, d.few, b)) ∙ sym (stays c k)

    previous : cond (eqb n 0) absent (part_in at slots (n - 1)) ≡ cond (eqb n 0) absent (whole (n - 1))
    previous = go (eqb n 0)
      where
        go : (t : Bool) → cond t absent (part_in at slots (n - 1)) ≡ cond t absent (whole (n - 1))
        go true = refl
        go false = same_part (n - 1) (omega (arith, d.begun)) (omega arith) (omega arith)

    next : cond (ltb (n + 1) (chunks w.pairs)) (part_in at slots (n + 1)) absent ≡ cond (ltb (n + 1) (chunks w.pairs)) (whole (n + 1)) absent
    next = go (ltb (n + 1) (chunks w.pairs)) (ltb-true (n + 1) (chunks w.pairs))
      where
        begun : n + 1 < chunks w.pairs → (12 * (n + 2) ≤ length xs) ⊎ (length xs ≡ w.pairs) → 12 * (n + 1) < length xs
        begun k (inl l) = omega (arith, l)
        begun k (inr e) = omega (arith, e, k)

        go : (t : Bool) → (t ≡ true → n + 1 < chunks w.pairs) → cond t (part_in at slots (n + 1)) absent ≡ cond t (whole (n + 1)) absent
        go true f = same_part (n + 1) (begun (f refl) d.complete) (omega arith) (omega arith)
        go false f = refl

    same_parts : around (part_in at slots) (chunks w.pairs) n ≡ around whole (chunks w.pairs) n
    unfolding around
    same_parts = rw (previous, same_part n d.begun (omega arith) (omega arith), next)

  same : (asked : Asked) → let c = taken (record { walk = at; slots = slots }) asked in walk_layer_refusal c ≡ 0
      → Same c (whole_fit (walk_size w) w.ratio (xs ++ ys) (chunks w.pairs) n asked)
  unfolding walk_layer_leaves
  same asked e =
      let c = taken (record { walk = at; slots = slots }) asked in
      let parts = same_parts (due c e) in
      record { accepted = rw (← parts) (fit_right c h.three e); layer = rw (← parts, e) }

-- ---- from a start on

module _ (w : Walk) (fresh : w ≡ moved w 0 0) (slots : List Slot) (three : length slots ≡ 3) (before : List Call) (asked : Asked) (later : List Call) where
  abbrev start : Stand
  start = record { walk = w; slots = slots }

  abbrev s : Stand
  s = after_all start before

  abbrev xs : List Pair
  xs = clip start before

  abbrev ys : List Pair
  ys = clip (after s (layer_call asked)) later

  abbrev n : ℕ
  n = layers start before

  along : Along w xs n s
  along = rw (zero-add n) at (along_all w [] 0 start (record { walk_is = fresh; holds = record { three = three; sums = λ c a b. absurd (omega arith) } }) before)

  -- a clip that is complete stays so
  behind : length xs ≡ w.pairs → ys ≡ []
  behind e = full _ (go (eqb (walk_layer_refusal (taken s asked)) 0)) later
    where
      at_end : s.walk.added ≡ s.walk.pairs
      at_end = rw along.walk_is e

      go : (t : Bool) → let k = cond t (moved s.walk s.walk.added (s.walk.taken + 1)) s.walk in k.added ≡ k.pairs
      go true = at_end
      go false = at_end

  all_is : clip start (before ++ layer_call asked ∷ later) ≡ xs ++ ys
  unfolding clip
  all_is = clip-append start before (layer_call asked ∷ later)

  each_from : walk_layer_refusal (taken s asked) ≡ 0
      → Same (taken s asked) (whole_fit (walk_size w) w.ratio (clip start (before ++ layer_call asked ∷ later)) (chunks w.pairs) n asked)
  each_from =
      rw all_is
      (subst (λ (k : Walk). let c = taken (record { walk = k; slots = s.slots }) asked in walk_layer_refusal c ≡ 0 → Same c (whole_fit (walk_size w) w.ratio (xs ++ ys) (chunks w.pairs) n asked))
      (sym along.walk_is) (same w xs ys n s.slots along.holds behind asked))

-- from a start that was refused nothing is taken
nowhere : (slots : List Slot) → length slots ≡ 3 → (before : List Call) (asked : Asked)
    → walk_layer_refusal (taken (after_all (record { walk = started (0, 0) 0 0; slots = slots }) before) asked) ≡ 0 → ⊥
unfolding walk_layer_refusal
nowhere slots three before asked e =
    let h = (along (started (0, 0) 0 0) refl slots three before asked []).walk_is in
    let k = (s (started (0, 0) 0 0) refl slots three before asked []).walk in
    let sizes = row_right _ refl e 0 (are_sizes (walk_size k)) refl in
    false≢true (rw h at sizes)

pub each_layer : EachLayer
each_layer size ratio pairs slots three before asked later = go (eqb (walk_start_refusal size ratio) 0)
  where
    from : Bool → Stand
    from t = record { walk = cond t (started size ratio pairs) (started (0, 0) 0 0); slots = slots }

    go : (t : Bool) → let c = taken (after_all (from t) before) asked in walk_layer_refusal c ≡ 0
        → Same c (whole_fit size ratio (clip (from t) (before ++ layer_call asked ∷ later)) (chunks pairs) (layers (from t) before) asked)
    go true e = each_from (started size ratio pairs) refl slots three before asked later e
    go false e = absurd (nowhere slots three before asked e)
