-- Figures of a walk (02): when a layer is due, which walks calls can leave, and what is refused.
use Rattle.std.specs.Prelude.{◌≡◌, true, false, List, [], ◌∷◌, ℕ, pos, replicate, Float}
use Rattle.rules.specs.declared.Walk.{Walk}
use Rattle.rules.specs.Forms.{Slot, Pair, Plane, Motion}
use Rattle.rules.specs.Literals.{lit, 0·0, 2·0, 4·0}
use Rattle.rules.specs.Calls.{WalkPairCall, WalkLayerCall}
use Rattle.rules.specs.Walk.{chunks, is_due, is_left, walk_start_refusal, walk_start_answer, walk_pair_refusal, walk_layer_refusal, walk_due_word}

-- a walk over a clip of one pixel
abbrev pub at : (pairs added taken : ℕ) → Walk
at pairs added taken = record { width = 1; height = 1; ratio = 1; pairs = pairs; added = added; taken = taken }

-- clips of 0, 1, 12, 13 and 30 pairs
abbrev pub Counted : Type 0
Counted = (chunks 0 ≡ 0) × (chunks 1 ≡ 1) × (chunks 12 ≡ 1) × (chunks 13 ≡ 2) × (chunks 30 ≡ 3)

-- of 30 pairs layer 0 is due after pair 23 and not before, layers 1 and 2 after pair 29; of 12 pairs layer 0 after pair
-- 11; of none never
abbrev pub Dues : Type 0
Dues =
    (is_due (at 30 23 0) ≡ false) × (is_due (at 30 24 0) ≡ true) × (is_due (at 30 24 1) ≡ false)
    × (is_due (at 30 29 1) ≡ false) × (is_due (at 30 30 1) ≡ true) × (is_due (at 30 30 2) ≡ true) × (is_due (at 30 30 3) ≡ false)
    × (is_due (at 12 11 0) ≡ false) × (is_due (at 12 12 0) ≡ true) × (is_due (at 0 0 0) ≡ false)

-- a walk can be left with layer 0 due or taken after pair 23; with pair 24 added it must be taken. No walk has more
-- pairs than its clip or takes a layer before it is due
abbrev pub Lefts : Type 0
Lefts =
    (is_left (at 30 24 0) ≡ true) × (is_left (at 30 24 1) ≡ true) × (is_left (at 30 25 1) ≡ true) × (is_left (at 30 25 0) ≡ false)
    × (is_left (at 30 31 1) ≡ false) × (is_left (at 30 23 1) ≡ false) × (is_left (at 30 30 3) ≡ true) × (is_left (at 30 30 4) ≡ false)
    × (walk_due_word (at 30 24 0) ≡ 256) × (walk_due_word (at 30 25 0) ≡ 0)

-- a start with width 0, and with a ratio that does not divide, which answers a walk of zeros
abbrev pub Starts : Type 0
Starts =
    (walk_start_refusal (0, 4) 1 ≡ 1) × (walk_start_refusal (5, 4) 2 ≡ 2) × (walk_start_refusal (4, 4) 2 ≡ 0)
    × (walk_start_answer (5, 4) 2 30 ≡ record { word = 2; walk = record { width = 0; height = 0; ratio = 0; pairs = 0; added = 0; taken = 0 } })

-- ---- 12 is the last of the tests

abbrev pub sums : Slot
sums = (replicate 6 0·0, replicate 2 0·0, replicate 2 0·0)

abbrev pub dot : Plane
dot = record { bytes = 9 ∷ []; pitch = 1 }

-- a pair of one pixel, whose motion has this pel
abbrev pub still : (pel : ℕ) → Pair
still pel =
    let field : List ℕ = 1024 ∷ [] in
    let m : Motion = record { forward = (field, field); backward = (field, field); grid = (1, 1); block = (pos 8, pos 8); origin = (pos 0, pos 0); pel = pos pel } in
    record { first = (dot, dot, dot); second = (dot, dot, dot); motion = m }

abbrev pub hand : Walk → (number pel : ℕ) → WalkPairCall
hand w number pel = record { walk = w; slots = sums ∷ sums ∷ sums ∷ []; number = number; pair = still pel }

-- pair 3 in its turn; out of turn; after the last; while a layer is due; to a walk that no calls leave; and with a pel
-- of 3 besides
abbrev pub PairTwelve : Type 0
PairTwelve =
    (walk_pair_refusal (hand (at 30 3 0) 3 1) ≡ 0) × (walk_pair_refusal (hand (at 30 3 0) 2 1) ≡ 12) × (walk_pair_refusal (hand (at 30 30 3) 30 1) ≡ 12)
    × (walk_pair_refusal (hand (at 30 24 0) 24 1) ≡ 12) × (walk_pair_refusal (hand (at 30 25 0) 25 1) ≡ 12) × (walk_pair_refusal (hand (at 30 24 0) 24 3) ≡ 5)

-- a layer with an evidence figure of 4.0, or of -0.5
abbrev pub take : Walk → (low : Float) → WalkLayerCall
take w low =
    record {
      walk = w;
      slots = sums ∷ sums ∷ sums ∷ [];
      limit = 2·0;
      evidence = low;
      strict = false;
      models = replicate 4 0·0;
      kept = 0 ∷ [];
      cover = 0 ∷ [];
      output = record { luma = replicate 2 (pos 5); chroma = (replicate 2 (pos 5), replicate 2 (pos 5)) };
    }

-- a layer that is due; when none is, before any pair too; and with an evidence figure outside its range besides
abbrev pub LayerTwelve : Type 0
LayerTwelve =
    (walk_layer_refusal (take (at 30 24 0) 4·0) ≡ 0) × (walk_layer_refusal (take (at 30 24 1) 4·0) ≡ 12) × (walk_layer_refusal (take (at 30 0 0) 4·0) ≡ 12)
    × (walk_layer_refusal (take (at 30 24 1) (lit 0xbf00_0000)) ≡ 6)
