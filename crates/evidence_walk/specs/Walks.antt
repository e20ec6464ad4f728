-- 02: "Lowering the evidence figure for the whole walk gives the guarantee of 01 chunk by chunk." It is said of the
-- answers and slices of the exported calls, as evidence_calls says demand 3.
use Rattle.std.specs.Prelude.{◌≡◌, true, false, List, ◌∷◌, ◌++◌, ℕ, length}
use Rattle.rules.specs.declared.Walked.{Walked}
use Rattle.rules.specs.Forms.{Pair, Slot, Fit}
use Rattle.rules.specs.Calls.{WalkLayerCall}
use Rattle.rules.specs.Float.{◌≼◌}
use Rattle.rules.specs.Host.{number_in}
use Rattle.rules.specs.Reading.{as_left}
use Rattle.rules.specs.Walk.{walk_layer_answer, walk_layer_leaves}
use Rattle.evidence_bytes.specs.Written.{through_bytes}
use Rattle.evidence_calls.specs.Calls.{KeepsLeft}
use Rattle.walk_whole.specs.Calls.{Asked, Call, layer_call, taken, begin, after_all, clip, layers}

-- what the contract of safeteal_walk_layer says of its answer and of the slices that it filled; what it says of the
-- work slices is left out: nothing here needs it
pub record Took (c : WalkLayerCall) (left : Fit) (r : Walked) : Type 0 where
  pub told : r ≡ walk_layer_answer c
  pub slices : left ≡ walk_layer_leaves c

-- equal settings, "strict off, the second evidence figure no higher than the first"
pub record Lower (first second : Asked) : Type 0 where
  pub strict : (first.strict ≡ false) × (second.strict ≡ false)
  pub limit : second.limit ≡ first.limit
  pub evidence : (second.evidence ≼ first.evidence) ≡ true

-- a layer that is taken from a walk: the calls before it and behind it, what it was taken with, what was left and told
pub record Taking (size : ℕ × ℕ) (ratio pairs : ℕ) : Type 0 where
  pub slots : List Slot
  pub three : length slots ≡ 3
  pub before : List Call
  pub asked : Asked
  pub later : List Call
  pub left : Fit
  pub answer : Walked
  pub took : Took (taken (after_all (begin size ratio pairs slots) before) asked) left answer
  pub accepted : number_in answer.word ≡ 0

-- the clip that the walk was handed, and the number of the layer's chunk
abbrev pub clip_of : {size : ℕ × ℕ} {ratio pairs : ℕ} → Taking size ratio pairs → List Pair
clip_of {size} {ratio} {pairs} t = clip (begin size ratio pairs t.slots) (t.before ++ layer_call t.asked ∷ t.later)

abbrev pub chunk_of : {size : ℕ × ℕ} {ratio pairs : ℕ} → Taking size ratio pairs → ℕ
chunk_of {size} {ratio} {pairs} t = layers (begin size ratio pairs t.slots) t.before

-- what the second layer keeps of the first, as numbers and written as bytes: the pairs and the distances, and then
-- whatever later call is made on both
pub record Kept (size : ℕ × ℕ) (ratio : ℕ) (first second : Fit) : Type 0 where
  pub numbers : KeepsLeft (as_left first size ratio) (as_left second size ratio)
  pub bytes : KeepsLeft (as_left (through_bytes first) size ratio) (as_left (through_bytes second) size ratio)

-- two walks over equal pairs, and of each the layer of the same chunk: so a walk whose every layer is taken with a
-- lower figure has it "chunk by chunk"
abbrev pub DemandThreeWalks : Type 0
DemandThreeWalks = (size : ℕ × ℕ) (ratio pairs : ℕ) (first second : Taking size ratio pairs)
    → clip_of second ≡ clip_of first → chunk_of second ≡ chunk_of first → Lower first.asked second.asked
    → Kept size ratio first.left second.left
