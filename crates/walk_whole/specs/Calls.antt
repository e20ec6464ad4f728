-- A walk, call by call: "From the start on, each call getting what the one before left".
use Rattle.std.specs.Prelude.{Bool, List, [], ◌∷◌, ◌++◌, ℕ, ◌+◌, Float}
use Rattle.rules.specs.declared.Walk.{Walk}
use Rattle.rules.specs.Forms.{Pair, Slot, Fit, leaves}
use Rattle.rules.specs.Calls.{WalkPairCall, WalkLayerCall}
use Rattle.rules.specs.Walk.{walk_start_answer, walk_pair_refusal, walk_pair_answer, walk_pair_leaves, walk_layer_refusal, walk_layer_answer}
use Rattle.calls.specs.Lent.{walk_pair_call, walk_layer_call}

-- what a call leaves to the one behind it: the walk, and the sums of its "three parts"
pub record Stand : Type 0 where
  pub walk : Walk
  pub slots : List Slot

-- what a layer is taken with: "fit's settings", its work slices, and the slices that it fills
pub record Asked : Type 0 where
  pub limit : Float
  pub evidence : Float
  pub strict : Bool
  pub models : List Float
  pub kept : List ℕ
  pub cover : List ℕ
  pub output : Fit

-- a call: "each pair with its own number", or a layer
pub data Call : Type 0 where
  pair_call : (number : ℕ) → Pair → Call
  layer_call : Asked → Call

-- such a call on a stand
abbrev pub handed : Stand → (number : ℕ) → Pair → WalkPairCall
handed s number pair = walk_pair_call s.walk s.slots number pair

abbrev pub taken : Stand → Asked → WalkLayerCall
taken s a = walk_layer_call s.walk s.slots a.limit a.evidence a.strict a.models a.kept a.cover a.output

-- where a walk stands at its start, whatever the slots hold
abbrev pub begin : (size : ℕ × ℕ) → (ratio pairs : ℕ) → List Slot → Stand
begin size ratio pairs slots = record { walk = (walk_start_answer size ratio pairs).walk; slots = slots }

-- and where after a call, accepted or refused
abbrev pub after : Stand → Call → Stand
after s (pair_call number pair) =
    let c = handed s number pair in
    record { walk = (walk_pair_answer c).walk; slots = walk_pair_leaves c }
after s (layer_call asked) = record { walk = (walk_layer_answer (taken s asked)).walk; slots = s.slots }

-- after calls, one behind the other
unfoldable pub after_all : Stand → List Call → Stand
after_all s [] = s
after_all s (c ∷ rest) = after_all (after s c) rest

-- the pair that a call adds to the clip: none where it is refused
abbrev pub given : Stand → Call → List Pair
given s (pair_call number pair) = leaves (walk_pair_refusal (handed s number pair)) (pair ∷ []) []
given s (layer_call asked) = []

-- the clip that calls hand over, as far as it goes
unfoldable pub clip : Stand → List Call → List Pair
clip s [] = []
clip s (c ∷ rest) = given s c ++ clip (after s c) rest

-- 1 where a call takes a layer, and is not refused
abbrev pub one : Stand → Call → ℕ
one s (pair_call number pair) = 0
one s (layer_call asked) = leaves (walk_layer_refusal (taken s asked)) 1 0

-- how many layers calls take: the next one is that of the chunk with this number, for "Due layers are taken in chunk
-- order"
unfoldable pub layers : Stand → List Call → ℕ
layers s [] = 0
layers s (c ∷ rest) = one s c + layers (after s c) rest
