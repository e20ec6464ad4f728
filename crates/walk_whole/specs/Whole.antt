-- 02: "each layer equals the one fitted with all parts of the clip held together"; that every walk can go on; and that
-- a walk which no calls leave is refused.
use Rattle.std.specs.Prelude.{◌≡◌, true, false, List, [], ◌∷◌, ◌++◌, ℕ, ◌*◌, ◌<◌, length, take, drop}
use Rattle.rules.specs.declared.Walk.{Walk}
use Rattle.rules.specs.Forms.{Pair, Slot, Part, absent}
use Rattle.rules.specs.Calls.{WalkLayerCall, FitCall}
use Rattle.rules.specs.Domain.{are_slots}
use Rattle.rules.specs.Refusals.{first_fitting, fit_refusal, pair_rows, work_rows}
use Rattle.rules.specs.Stats.{stats_sums}
use Rattle.rules.specs.Fit.{fit_leaves}
use Rattle.rules.specs.Walk.{chunks, is_due, is_left, around, walk_size, walk_start_refusal, pair_stats, walk_pair_refusal, layer_fit, walk_layer_refusal, walk_layer_leaves}
use Rattle.calls.specs.Lent.{stats_call, fit_call}
use Rattle.walk_whole.specs.Calls.{Stand, Asked, Call, layer_call, handed, taken, begin, after_all, clip, layers}

-- ---- a clip held together

-- the pairs of chunk c: 12 c to 12 c + 11, or up to the clip's last
abbrev pub chunk : List Pair → (c : ℕ) → List Pair
chunk pairs c = take 12 (drop (12 * c) pairs)

-- a part with these pairs added, as stats adds them, one after another
unfoldable pub summed : (size : ℕ × ℕ) → (ratio : ℕ) → List Pair → Part → Part
summed size ratio [] sums = sums
summed size ratio (pair ∷ rest) sums = summed size ratio rest (stats_sums (stats_call sums size.0 size.1 ratio pair))

-- the part of chunk c, from nothing
unfoldable pub whole_part : (size : ℕ × ℕ) → (ratio : ℕ) → List Pair → (c : ℕ) → Part
whole_part size ratio pairs c = summed size ratio (chunk pairs c) absent

-- the fit of chunk c of a clip of `count` chunks
abbrev pub whole_fit : (size : ℕ × ℕ) → (ratio : ℕ) → List Pair → (count c : ℕ) → Asked → FitCall
whole_fit size ratio pairs count c a =
    fit_call (around (whole_part size ratio pairs) count c) size.0 size.1 ratio a.limit a.evidence a.strict a.models a.kept a.cover a.output

-- ---- the claim

-- a layer that is taken is what this fit, which is not refused, leaves
pub record Same (c : WalkLayerCall) (whole : FitCall) : Type 0 where
  pub accepted : fit_refusal whole ≡ 0
  pub layer : walk_layer_leaves c ≡ fit_leaves whole

-- whatever calls came before, and whatever come later: a layer that is taken is the one of its chunk, fitted with all
-- parts of the clip that was handed over in all these calls
abbrev pub EachLayer : Type 0
EachLayer = (size : ℕ × ℕ) (ratio pairs : ℕ) (slots : List Slot) → length slots ≡ 3
    → (before : List Call) (asked : Asked) (later : List Call)
    → let start = begin size ratio pairs slots in
    let c = taken (after_all start before) asked in
    walk_layer_refusal c ≡ 0
    → Same c (whole_fit size ratio (clip start (before ++ layer_call asked ∷ later)) (chunks pairs) (layers start before) asked)

-- ---- and no walk stands still

-- how a walk can go on from a stand
pub record GoesOn (s : Stand) : Type 0 where
  -- it is one that calls leave: so 12 is not answered for that
  pub left : is_left s.walk ≡ true
  -- the next pair is accepted unless a layer is due or the clip is complete: whatever pair is inside 01's limits
  pub pair : is_due s.walk ≡ false → s.walk.added < s.walk.pairs
      → (pair : Pair) → let c = handed s s.walk.added pair in first_fitting (pair_rows (pair_stats c) true []) ≡ 0 → walk_pair_refusal c ≡ 0
  -- a due layer is accepted: whatever settings and slices are inside fit's limits
  pub layer : is_due s.walk ≡ true
      → (asked : Asked) → let c = taken s asked in first_fitting (work_rows (layer_fit c) []) ≡ 0 → walk_layer_refusal c ≡ 0
  -- and where the clip is complete and none is due, every chunk's layer was taken
  pub done : is_due s.walk ≡ false → s.walk.added ≡ s.walk.pairs → s.walk.taken ≡ chunks s.walk.pairs

abbrev pub EachGoesOn : Type 0
EachGoesOn = (size : ℕ × ℕ) (ratio pairs : ℕ) (slots : List Slot)
    → walk_start_refusal size ratio ≡ 0 → length slots ≡ 3 → are_slots slots size ratio ≡ true → (calls : List Call)
    → GoesOn (after_all (begin size ratio pairs slots) calls)

-- ---- and is_left takes no other walk

-- some calls from a start on, with these slots, leave this walk
pub record Reached (w : Walk) (slots : List Slot) : Type 0 where
  pub calls : List Call
  pub comes : (after_all (begin (walk_size w) w.ratio w.pairs slots) calls).walk ≡ w

-- they leave every walk that is_left takes, where its start is accepted and the three slots have their lengths
abbrev pub EachReached : Type 0
EachReached = (w : Walk) (slots : List Slot)
    → walk_start_refusal (walk_size w) w.ratio ≡ 0 → length slots ≡ 3 → are_slots slots (walk_size w) w.ratio ≡ true → is_left w ≡ true
    → Reached w slots

-- a walk that no calls leave is refused: where a pair is accepted, or a layer, some calls leave the walk
abbrev pub PairReached : Type 0
PairReached = (s : Stand) (number : ℕ) (pair : Pair) → length s.slots ≡ 3 → walk_pair_refusal (handed s number pair) ≡ 0 → Reached s.walk s.slots

abbrev pub LayerReached : Type 0
LayerReached = (s : Stand) (asked : Asked) → length s.slots ≡ 3 → walk_layer_refusal (taken s asked) ≡ 0 → Reached s.walk s.slots
