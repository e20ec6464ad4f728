-- 02, "W-204. Walking a whole clip.": a clip's chunks, when a layer is due, and what a walk's calls answer and leave.
use Rattle.std.specs.Prelude.{min, ◌&&◌, ◌||◌, ◌∷◌, ◌+◌, ◌-◌, ◌*◌, ◌/◌, ◌%◌}
use Rattle.rules.specs.Words.{Bool, cond, not, List, [], ℕ, leb, ltb, eqb, get_or, set, Walk, Walked}
use Rattle.rules.specs.Forms.{Slot, Part, Parts, Fit, part, absent, uncounted, leaves}
use Rattle.rules.specs.Calls.{StatsCall, FitCall, WalkPairCall, WalkLayerCall}
use Rattle.rules.specs.Domain.{are_sizes, is_ratio, are_slots}
use Rattle.rules.specs.Refusals.{◌unless◌, first_fitting, size_rows, pair_rows, work_rows}
use Rattle.rules.specs.Stats.{stats_sums}
use Rattle.rules.specs.Fit.{fit_leaves}
use Rattle.rules.specs.Host.{word, yes_word}

-- ---- "one layer per chunk of 12"

-- how many chunks a clip of so many pairs has, the last of them up to its last pair; "a clip of no pairs gives no
-- layer"
abbrev pub chunks : (pairs : ℕ) → ℕ
chunks pairs = (pairs + 11) / 12

-- the chunk of the pair with this number: chunk c has pairs 12 c to 12 c + 11
abbrev pub chunk_of : (number : ℕ) → ℕ
chunk_of number = number / 12

-- how many of a clip's first `added` pairs are chunk c's
abbrev pub pairs_in : (added c : ℕ) → ℕ
pairs_in added c = min 12 (added - 12 * c)

-- ---- "A layer is due once chunk c+1 is complete, or the clip."

-- whether all twelve pairs of chunk c are among the first `added`; a last chunk of fewer is complete with the clip
abbrev pub is_complete : (added c : ℕ) → Bool
is_complete added c = leb (12 * (c + 1)) added

-- whether layer c of a clip of so many pairs is due or was, once `added` pairs were added
abbrev pub is_ready : (pairs added c : ℕ) → Bool
is_ready pairs added c = ltb c (chunks pairs) && (is_complete added (c + 1) || eqb added pairs)

-- "Due layers are taken in chunk order": the next one is due
abbrev pub is_due : Walk → Bool
is_due w = is_ready w.pairs w.added w.taken

-- whether accepted calls from a start on can leave a walk so: it has added no more pairs than the clip has, the last
-- layer that it took was due, and the next one was not when the last pair came ("before any further pair")
abbrev pub is_left : Walk → Bool
is_left w =
    leb w.added w.pairs
    && (eqb w.taken 0 || is_ready w.pairs w.added (w.taken - 1))
    && (eqb w.added 0 || not (is_ready w.pairs (w.added - 1) w.taken))

-- ---- "The walk keeps three parts .. and drops what is behind."

-- the slot of chunk c, of three; chunk c + 3 takes it over, and begins there from 0.0
abbrev pub slot : List Slot → (c : ℕ) → Slot
slot slots c = get_or slots (c % 3) ([], [], [])

-- chunk c's part, as far as its pairs were added
abbrev pub part_in : Walk → List Slot → (c : ℕ) → Part
part_in w slots c = part (slot slots c) (pairs_in w.added c)

-- of a clip of so many chunks: "fits chunk c from c-1, c and c+1"; "The first chunk has no previous part and the last
-- no next."
unfoldable pub around : (parts : (c : ℕ) → Part) → (count c : ℕ) → Parts
around parts count c =
    record {
      previous = cond (eqb c 0) absent (parts (c - 1));
      own = parts c;
      next = cond (ltb (c + 1) count) (parts (c + 1)) absent;
    }

-- ---- what every call of a walk answers

-- luma's width and height
abbrev pub walk_size : Walk → ℕ × ℕ
walk_size w = (w.width, w.height)

-- "no refusal changes the walk"
abbrev pub walked : (number : ℕ) → (new old : Walk) → Walked
walked number new old = record { word = word (uncounted number); walk = leaves number new old }

-- a walk with so many pairs added and so many layers taken
abbrev pub moved : Walk → (added taken : ℕ) → Walk
moved w added taken = record { width = w.width; height = w.height; ratio = w.ratio; pairs = w.pairs; added = added; taken = taken }

-- ---- "They give the sizes, the ratio and the clip's number of pairs at the start"

abbrev pub started : (size : ℕ × ℕ) → (ratio pairs : ℕ) → Walk
started size ratio pairs = record { width = size.0; height = size.1; ratio = ratio; pairs = pairs; added = 0; taken = 0 }

unfoldable pub walk_start_refusal : (size : ℕ × ℕ) → (ratio : ℕ) → ℕ
walk_start_refusal size ratio = first_fitting (size_rows size ratio [])

-- a start that is refused answers a walk of zeros
abbrev pub walk_start_answer : (size : ℕ × ℕ) → (ratio pairs : ℕ) → Walked
walk_start_answer size ratio pairs = walked (walk_start_refusal size ratio) (started size ratio pairs) (started (0, 0) 0 0)

-- ---- "and each pair with its own number from 0"

-- it is added to the part of its chunk, as stats adds it
abbrev pub pair_stats : WalkPairCall → StatsCall
pair_stats c =
    let w = c.walk in
    record { sums = part_in w c.slots (chunk_of w.added); size = walk_size w; ratio = w.ratio; pair = c.pair }

-- 12 is "a pair out of turn, after the last or while a layer is due"; so is any pair that a walk is handed which no
-- calls leave
abbrev pub is_turn : Walk → (number : ℕ) → Bool
is_turn w number = is_left w && eqb number w.added && ltb w.added w.pairs && not (is_due w)

-- there is no row for 7: a chunk's part has 11 pairs at most before one more
unfoldable pub walk_pair_refusal : WalkPairCall → ℕ
walk_pair_refusal c =
    let w = c.walk in
    first_fitting (pair_rows (pair_stats c) (are_slots c.slots (walk_size w) w.ratio) ((12 unless is_turn w c.number) ∷ []))

abbrev pub walk_pair_answer : WalkPairCall → Walked
walk_pair_answer c =
    let w = c.walk in
    walked (walk_pair_refusal c) (moved w (w.added + 1) w.taken) w

-- the slots with the pair added to its chunk's
unfoldable pub pair_slots : WalkPairCall → List Slot
pair_slots c =
    let p = stats_sums (pair_stats c) in
    set c.slots (chunk_of c.walk.added % 3) (p.luma, p.chroma.0, p.chroma.1)

-- what the call leaves in them
abbrev pub walk_pair_leaves : WalkPairCall → List Slot
walk_pair_leaves c = leaves (walk_pair_refusal c) (pair_slots c) c.slots

-- ---- "Due layers are taken in chunk order, one by each call with fit's settings, before any further pair."

-- the parts that the next layer is fitted from
abbrev pub parts_due : Walk → List Slot → Parts
parts_due w slots = around (part_in w slots) (chunks w.pairs) w.taken

-- it is made as fit makes it
abbrev pub layer_fit : WalkLayerCall → FitCall
layer_fit c =
    let w = c.walk in
    record {
      parts = parts_due w c.slots;
      size = walk_size w;
      limit = c.limit;
      evidence = c.evidence;
      strict = c.strict;
      ratio = w.ratio;
      models = c.models;
      kept = c.kept;
      cover = c.cover;
      output = c.output;
    }

-- 12 is "a layer taken when none is due"; so is any layer of a walk that no calls leave. There is no row for 7: a
-- part's pairs are the walk's own, 12 at most
unfoldable pub walk_layer_refusal : WalkLayerCall → ℕ
walk_layer_refusal c =
    let w = c.walk in
    first_fitting (
    size_rows (walk_size w) w.ratio ((4 unless are_slots c.slots (walk_size w) w.ratio) ∷ work_rows (layer_fit c) ((12 unless is_left w && is_due w) ∷ [])))

abbrev pub walk_layer_answer : WalkLayerCall → Walked
walk_layer_answer c =
    let w = c.walk in
    walked (walk_layer_refusal c) (moved w w.added (w.taken + 1)) w

-- what the call stores
unfoldable pub walk_layer_leaves : WalkLayerCall → Fit
walk_layer_leaves c = leaves (walk_layer_refusal c) (fit_leaves (layer_fit c)) c.output

-- ---- a question besides: whether a layer is due; no of a walk that no calls leave

abbrev pub walk_due : Walk → Bool
walk_due w = are_sizes (walk_size w) && is_ratio w.ratio (walk_size w) && (is_left w && is_due w)

-- a yes as a call tells it, in the count's place
abbrev pub walk_due_word : Walk → ℕ
walk_due_word w = yes_word (walk_due w)
