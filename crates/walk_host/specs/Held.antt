-- What a walk's exported calls promise, whatever calls came before: "each call getting what the one before left".
use Rattle.std.specs.Prelude.{◌≡◌, true, false, List, [], ◌∷◌, ◌++◌, ℕ, ◌<◌, length, Float}
use Rattle.rules.specs.declared.Walk.{Walk}
use Rattle.rules.specs.declared.Walked.{Walked}
use Rattle.rules.specs.Forms.{Pair, Slot, Fit}
use Rattle.rules.specs.Domain.{are_slots}
use Rattle.rules.specs.Refusals.{first_fitting, fit_refusal, pair_rows, work_rows}
use Rattle.rules.specs.Fit.{fit_leaves}
use Rattle.rules.specs.Host.{number_in}
use Rattle.rules.specs.Walk.{chunks, is_due, walk_start_refusal, walk_start_answer, pair_stats, walk_pair_answer, layer_fit, walk_layer_answer}
use Rattle.calls.specs.Lent.{walk_pair_call}
use Rattle.fit_trial.specs.declared.Settings.{Settings}
use Rattle.walk_whole.specs.Calls.{Stand, Asked, Call, pair_call, layer_call, taken, begin, after_all, clip, layers}
use Rattle.walk_whole.specs.Whole.{whole_fit, Reached}
use Rattle.answers.specs.Never.{NotAnswered}
use Rattle.evidence_walk.specs.Walks.{Took}

-- a walk's beginning: what it was started with, and the slots as they were
pub record Beginning : Type 0 where
  pub size : ℕ × ℕ
  pub ratio : ℕ
  pub pairs : ℕ
  pub slots : List Slot

abbrev pub from : Beginning → Stand
from b = begin b.size b.ratio b.pairs b.slots

-- a walk and its slots as these calls leave them, one behind the other
pub record Comes (b : Beginning) (calls : List Call) (walk : Walk) (slots : List Slot) : Type 0 where
  pub walk_is : walk ≡ (after_all (from b) calls).walk
  pub slots_are : slots ≡ (after_all (from b) calls).slots

-- a start that was accepted, with three slots of the walk's lengths
pub record Sound (b : Beginning) : Type 0 where
  pub accepted : walk_start_refusal b.size b.ratio ≡ 0
  pub three : length b.slots ≡ 3
  pub lengths : are_slots b.slots b.size b.ratio ≡ true

-- safeteal_walk_start: a walk begins, whatever its slots hold; that 8 is not answered (`other`) is said of each call
pub record Starts (size : ℕ × ℕ) (ratio pairs : ℕ) (r : Walked) : Type 0 where
  pub told : r ≡ walk_start_answer size ratio pairs
  pub other : NotAnswered r.word
  pub begins : (slots : List Slot) → Comes (record { size = size; ratio = ratio; pairs = pairs; slots = slots }) [] r.walk slots

-- safeteal_walk_pair: the walk goes on, the pair accepted or refused
pub record Hands (walk : Walk) (slots : List Slot) (number : ℕ) (pair : Pair) (left : List Slot) (r : Walked) : Type 0 where
  pub told : r ≡ walk_pair_answer (walk_pair_call walk slots number pair)
  pub other : NotAnswered r.word
  pub goes : (b : Beginning) (calls : List Call) → Comes b calls walk slots → Comes b (calls ++ pair_call number pair ∷ []) r.walk left
  -- no walk stands still: the next pair is accepted unless a layer is due or the clip is complete
  pub accepted : (b : Beginning) (calls : List Call) → Comes b calls walk slots → Sound b → is_due walk ≡ false → walk.added < walk.pairs → number ≡ walk.added
      → first_fitting (pair_rows (pair_stats (walk_pair_call walk slots number pair)) true []) ≡ 0 → r.word ≡ 0
  -- a walk that no calls leave is refused: where the number is 0, some calls leave this one
  pub reached : length slots ≡ 3 → number_in r.word ≡ 0 → Reached walk slots

-- what a layer is taken with
abbrev pub asked_by : Settings → List Float → (kept cells' : List ℕ) → Fit → Asked
asked_by s models kept cells' output =
    record { limit = s.limit; evidence = s.evidence; strict = s.strict; models = models; kept = kept; cover = cells'; output = output }

-- safeteal_walk_layer: the walk goes on; and a layer that is accepted is the one of its chunk, fitted with all parts of
-- the clip held together, whatever calls come later
pub record Takes (walk : Walk) (slots : List Slot) (asked : Asked) (left : Fit) (r : Walked) : Type 0 where
  pub told : r ≡ walk_layer_answer (taken (record { walk = walk; slots = slots }) asked)
  pub other : NotAnswered r.word
  pub goes : (b : Beginning) (calls : List Call) → Comes b calls walk slots → Comes b (calls ++ layer_call asked ∷ []) r.walk slots
  pub layer : (b : Beginning) (calls : List Call) → Comes b calls walk slots → length b.slots ≡ 3 → number_in r.word ≡ 0 → (later : List Call)
      → let whole = whole_fit b.size b.ratio (clip (from b) (calls ++ layer_call asked ∷ later)) (chunks b.pairs) (layers (from b) calls) asked in
      (fit_refusal whole ≡ 0) × (left ≡ fit_leaves whole)
  -- no walk stands still: a due layer is accepted, whatever is asked inside fit's limits
  pub accepted : (b : Beginning) (calls : List Call) → Comes b calls walk slots → Sound b → is_due walk ≡ true
      → first_fitting (work_rows (layer_fit (taken (record { walk = walk; slots = slots }) asked)) []) ≡ 0 → r.word ≡ 0
  -- and one of a walk that no calls leave is refused
  pub reached : length slots ≡ 3 → number_in r.word ≡ 0 → Reached walk slots
  -- so that the evidence guarantee of walks (evidence_walk) speaks of it
  pub took : (b : Beginning) (calls : List Call) → Comes b calls walk slots → Took (taken (after_all (from b) calls) asked) left r
