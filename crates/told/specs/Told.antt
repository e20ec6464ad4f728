-- What an exported call tells: its answer as one 64-bit number, and what it leaves in the slices that it may write.
use Rattle.std.specs.Prelude.{◌≡◌, false, List, ℕ, Float}
use Rattle.rules.specs.Answers.{Answer}
use Rattle.rules.specs.declared.Walked.{Walked}
use Rattle.rules.specs.Forms.{Slot, Fit}
use Rattle.rules.specs.Calls.{FitCall, WalkPairCall, WalkLayerCall}
use Rattle.rules.specs.Refusals.{fit_refusal}
use Rattle.rules.specs.Fit.{frees_work}
use Rattle.rules.specs.Host.{word}
use Rattle.rules.specs.Walk.{walk_pair_answer, walk_pair_leaves, walk_layer_refusal, walk_layer_answer, walk_layer_leaves}

-- one slice
pub record Told {A : Type 0} (answer : Answer) (leaves left : List A) (r : ℕ) : Type 0 where
  pub told : r ≡ word answer
  pub slice : left ≡ leaves

-- three, of luma and of the chroma planes
pub record ToldThree {A : Type 0} (answer : Answer) (luma : List A) (chroma : List A × List A) (luma' chroma1' chroma2' : List A) (r : ℕ) : Type 0 where
  pub told : r ≡ word answer
  pub luma_left : luma' ≡ luma
  pub chroma1_left : chroma1' ≡ chroma.0
  pub chroma2_left : chroma2' ≡ chroma.1

-- fit's work slices: every refusal leaves them as they were, acceptance leaves them free
pub record WorkStays (c : FitCall) (models' : List Float) (kept' cover' : List ℕ) : Type 0 where
  pub models_stay : frees_work (fit_refusal c) ≡ false → models' ≡ c.models
  pub kept_stays : frees_work (fit_refusal c) ≡ false → kept' ≡ c.kept
  pub cover_stays : frees_work (fit_refusal c) ≡ false → cover' ≡ c.cover

-- a pair that a walk is handed: the walk, and every slice of its sums
pub record PairTold (c : WalkPairCall) (slots' : List Slot) (r : Walked) : Type 0 where
  pub told : r ≡ walk_pair_answer c
  pub slots_left : slots' ≡ walk_pair_leaves c

-- a layer that is taken from it: the walk, what is stored, and the work slices, which a refusal leaves as they were
pub record LayerTold (c : WalkLayerCall) (models' : List Float) (kept' cover' : List ℕ) (output' : Fit) (r : Walked) : Type 0 where
  pub told : r ≡ walk_layer_answer c
  pub output_left : output' ≡ walk_layer_leaves c
  pub models_stay : frees_work (walk_layer_refusal c) ≡ false → models' ≡ c.models
  pub kept_stays : frees_work (walk_layer_refusal c) ≡ false → kept' ≡ c.kept
  pub cover_stays : frees_work (walk_layer_refusal c) ≡ false → cover' ≡ c.cover
