-- A walk by example: it is not empty, and its layers differ. 13 pairs of one pixel, so two chunks: twelve pairs from
-- 200 to 100 and one from 100 to 180. Two calls in between are refused: a pair out of turn, and a layer when none is
-- due.
use Rattle.std.specs.Prelude.{◌≡◌, false, cond, List, [], ◌∷◌, ◌++◌, ℕ, ltb, ℤ, pos, negsuc, length, replicate, Float}
use Rattle.rules.specs.Forms.{Plane, Motion, Pair, Slot, tabulate}
use Rattle.rules.specs.Literals.{0·0, 2·0}
use Rattle.rules.specs.Float.{float}
use Rattle.rules.specs.Walk.{walk_pair_refusal, walk_layer_refusal, walk_layer_leaves}
use Rattle.walk_whole.specs.Calls.{Stand, Asked, Call, pair_call, layer_call, handed, taken, begin, after_all, clip}

abbrev pub dot : ℕ → Plane
dot byte = record { bytes = byte ∷ []; pitch = 1 }

-- nothing moves
abbrev pub still : Motion
still =
    let field : List ℕ = 1024 ∷ [] in
    record { forward = (field, field); backward = (field, field); grid = (1, 1); block = (pos 8, pos 8); origin = (pos 0, pos 0); pel = pos 1 }

-- a pair whose luma goes from one byte to another
abbrev pub seen : (first second : ℕ) → Pair
seen first second = record { first = (dot first, dot 128, dot 128); second = (dot second, dot 128, dot 128); motion = still }

-- what the slots hold before does not matter
abbrev pub start : Stand
start = let s : Slot = (replicate 6 (float 7), replicate 2 (float 7), replicate 2 (float 7)) in begin (1, 1) 1 13 (s ∷ s ∷ s ∷ [])

-- a layer is asked for with this evidence figure
abbrev pub asked : (evidence : Float) → Asked
asked evidence =
    record {
      limit = 2·0;
      evidence = evidence;
      strict = false;
      models = replicate 4 0·0;
      kept = 0 ∷ [];
      cover = 0 ∷ [];
      output = record { luma = replicate 2 (pos 5); chroma = (replicate 2 (pos 5), replicate 2 (pos 5)) };
    }

-- pairs 0 to n - 1
abbrev pub pairs : (n : ℕ) → List Call
pairs n = tabulate n (λ k. pair_call k (cond (ltb k 12) (seen 200 100) (seen 100 180)))

-- all that comes before the first layer, and before the second
abbrev pub before : List Call
before = pair_call 5 (seen 1 2) ∷ layer_call (asked 2·0) ∷ pairs 13

abbrev pub between : (evidence : Float) → List Call
between evidence = before ++ layer_call (asked evidence) ∷ []

-- what is stored for luma by each
abbrev pub first : (evidence : Float) → List ℤ
first evidence = (walk_layer_leaves (taken (after_all start before) (asked evidence))).luma

abbrev pub second : (evidence : Float) → List ℤ
second evidence = (walk_layer_leaves (taken (after_all start (between evidence)) (asked evidence))).luma

pub record Walked : Type 0 where
  -- both layers are taken, and no third
  pub numbers :
      (walk_layer_refusal (taken (after_all start before) (asked 2·0)) ≡ 0) × (walk_layer_refusal (taken (after_all start (between 2·0)) (asked 2·0)) ≡ 0)
      × (walk_layer_refusal (taken (after_all start (between 2·0 ++ layer_call (asked 2·0) ∷ [])) (asked 2·0)) ≡ 12)
  -- the two calls in between were refused
  pub refused : (walk_pair_refusal (handed start 5 (seen 1 2)) ≡ 12) × (walk_layer_refusal (taken start (asked 2·0)) ≡ 12)
  pub given : length (clip start before) ≡ 13

-- a gain and an offset each: about -0.998 and 299.77, then -0.998 and 279.66
abbrev pub Layers : Type 0
Layers = (first 2·0 ≡ negsuc 4088 ∷ pos 19185 ∷ []) × (second 2·0 ≡ negsuc 4085 ∷ pos 17898 ∷ [])

-- with a higher evidence figure the first chunk's is the same, and in the second nothing is found: what the guarantee
-- of a walk says is not empty, and the lower figure finds more
abbrev pub Higher : Type 0
Higher = (first (float 20) ≡ negsuc 4088 ∷ pos 19185 ∷ []) × (second (float 20) ≡ pos 4096 ∷ pos 0 ∷ [])
