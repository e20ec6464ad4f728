-- Where a walk's call is accepted, so is what it is made of: stats on the part of the pair's chunk, fit on the parts of
-- the layer's. Assumes nothing.
use mathlib.Core.Path.{◌≡◌, refl}
use mathlib.Core.Bool.{Bool, true, false, cond, ◌&&◌, ◌||◌}
use mathlib.Core.List.{List, [], ◌∷◌}
use Prim.Native.Nat.{ℕ, ◌+◌, ◌-◌, ◌*◌, ◌%◌, ◌<◌}
use native.Mathlib.Omega.{arith}
use borrow.Author.Tests.{le-leb}
use lib.Dec.{leb, ltb, eqb}
use lib.ListN.{length}
use Rattle.rules.specs.declared.Walk.{Walk}
use Rattle.rules.specs.Forms.{Slot, Part, absent, shrunk}
use Rattle.rules.specs.Literals.{0·0, 0·5, 255·0, 65536·0}
use Rattle.rules.specs.Float.{within}
use Rattle.rules.specs.Calls.{StatsCall, WalkPairCall, WalkLayerCall}
use Rattle.rules.specs.Domain.{kept_length, are_sizes, is_ratio, have_pitches, have_lengths, are_sums, are_slots, is_fit, are_models, is_cover, motion_lengths, motion_numbers}
use Rattle.rules.specs.Refusals.{◌unless◌, Table, first_fitting, size_rows, is_neighbour, lumas, chromas, pair_rows, work_rows, stats_refusal, fit_refusal}
use Rattle.rules.specs.Walk.{chunks, chunk_of, pairs_in, is_due, is_left, is_turn, part_in, around, walk_size, pair_stats, walk_pair_refusal, layer_fit, walk_layer_refusal}
use Rattle.laws.proofs.Accepted.{row_right, numbered}
use Rattle.laws.proofs.Lists.{each_at}
use Rattle.walk_laws.proofs.Due.{Due, due_in, Turn, turn_in}

-- the sums of a chunk have their lengths
pub slot_long : (w : Walk) (slots : List Slot) → length slots ≡ 3 → are_slots slots (walk_size w) w.ratio ≡ true → (c : ℕ) → are_sums (part_in w slots c) (walk_size w) w.ratio ≡ true
slot_long w slots three e c = each_at _ slots ([], [], []) e (c % 3) (rw three (λ p. absurd (omega arith)))

-- ---- a pair

pub turn : (c : WalkPairCall) → walk_pair_refusal c ≡ 0 → Turn c.walk c.number
unfolding walk_pair_refusal
turn c e = turn_in c.walk c.number (row_right _ refl e 9 _ refl)

-- a pair that is right, added to sums that are right
pub pair_right : (c : StatsCall) (sums sums' : Bool) (rest rest' : Table) → numbered rest ≡ true → first_fitting (pair_rows c sums rest) ≡ 0
    → sums' ≡ true → first_fitting rest' ≡ 0 → first_fitting (pair_rows c sums' rest') ≡ 0
unfolding first_fitting
pair_right c sums sums' rest rest' some e s r =
    let ok = row_right (pair_rows c sums rest) some e in
    let size = c.size in
    let small = shrunk size c.ratio in
    rw (
      ok 0 (are_sizes size) refl,
      ok 1 (is_ratio c.ratio size) refl,
      ok 2 (have_pitches (lumas c.pair) size) refl,
      ok 3 (have_pitches (chromas c.pair) small) refl,
      ok 4 (have_lengths (lumas c.pair) size) refl,
      ok 5 (have_lengths (chromas c.pair) small) refl,
      s,
      ok 7 (motion_lengths c.pair.motion) refl,
      ok 8 (motion_numbers c.pair.motion) refl,
      r,
    )

-- a chunk's part has 11 pairs at most before one more: 7 cannot occur
pub room : (added : ℕ) → leb (pairs_in added (chunk_of added)) 11 ≡ true
room added = le-leb (pairs_in added (chunk_of added)) 11 (omega arith)

-- a table of one row
pub one_row : (n : ℕ) (right : Bool) → right ≡ true → first_fitting ((n unless right) ∷ []) ≡ 0
unfolding first_fitting
one_row n right e = rw e

-- a pair's table
abbrev handed_rows : WalkPairCall → Table
handed_rows c = pair_rows (pair_stats c) (are_slots c.slots (walk_size c.walk) c.walk.ratio) ((12 unless is_turn c.walk c.number) ∷ [])

pub stats_right : (c : WalkPairCall) → length c.slots ≡ 3 → walk_pair_refusal c ≡ 0 → stats_refusal (pair_stats c) ≡ 0
unfolding walk_pair_refusal stats_refusal
stats_right c three e =
    let w = c.walk in
    let lengths = row_right (handed_rows c) refl e 6 (are_slots c.slots (walk_size w) w.ratio) refl in
    pair_right (pair_stats c) (are_slots c.slots (walk_size w) w.ratio) _ ((12 unless is_turn w c.number) ∷ []) _ refl e
    (slot_long w c.slots three lengths (chunk_of w.added)) (one_row 7 (leb (pairs_in w.added (chunk_of w.added)) 11) (room w.added))

-- ---- a layer

pub due : (c : WalkLayerCall) → walk_layer_refusal c ≡ 0 → Due c.walk
unfolding walk_layer_refusal
due c e = due_in c.walk (row_right _ refl e 9 _ refl)

module _ (w : Walk) (slots : List Slot) (three : length slots ≡ 3) (e : are_slots slots (walk_size w) w.ratio ≡ true) where
  -- a part that is there, or none
  beside : (there : Bool) (c : ℕ) → is_neighbour (cond there (part_in w slots c) absent) (walk_size w) w.ratio ≡ true
  beside true c = rw (slot_long w slots three e c) (right (eqb (pairs_in w.added c) 0))
    where
      right : (a : Bool) → (a || true) ≡ true
      right true = refl
      right false = refl
  beside false c = refl

  beside_not : (none : Bool) (c : ℕ) → is_neighbour (cond none absent (part_in w slots c)) (walk_size w) w.ratio ≡ true
  beside_not true c = beside false c
  beside_not false c = beside true c

-- no part has more than 12 pairs
few : (t : Bool) (p q : Part) → leb p.pairs 12 ≡ true → leb q.pairs 12 ≡ true → leb (cond t p q).pairs 12 ≡ true
few true p q h k = h
few false p q h k = k

at_most : (added c : ℕ) → leb (pairs_in added c) 12 ≡ true
at_most added c = le-leb (pairs_in added c) 12 (omega arith)

-- and that of a layer that is due has some
some : (added c : ℕ) → 12 * c < added → leb 1 (pairs_in added c) ≡ true
some added c h = le-leb 1 (pairs_in added c) (omega arith)

pub fit_right : (c : WalkLayerCall) → length c.slots ≡ 3 → walk_layer_refusal c ≡ 0 → fit_refusal (layer_fit c) ≡ 0
unfolding walk_layer_refusal fit_refusal first_fitting around
fit_right c three e =
    let w = c.walk in
    let rows : Table = size_rows (walk_size w) w.ratio ((4 unless are_slots c.slots (walk_size w) w.ratio) ∷ work_rows (layer_fit c) ((12 unless is_left w && is_due w) ∷ [])) in
    let ok = row_right rows refl e in
    let d = due c e in
    let lengths = ok 2 _ refl in
    rw (
      ok 0 (are_sizes (walk_size w)) refl,
      ok 1 (is_ratio w.ratio (walk_size w)) refl,
      beside_not w c.slots three lengths (eqb w.taken 0) (w.taken - 1),
      slot_long w c.slots three lengths w.taken,
      beside w c.slots three lengths (ltb (w.taken + 1) (chunks w.pairs)) (w.taken + 1),
      ok 3 (are_models c.models (walk_size w)) refl,
      ok 4 (eqb (length c.kept) (kept_length (walk_size w))) refl,
      ok 5 (is_cover c.cover (walk_size w)) refl,
      ok 6 (is_fit c.output (walk_size w) w.ratio) refl,
      ok 7 (within c.limit 0·5 255·0) refl,
      ok 8 (within c.evidence 0·0 65536·0) refl,
      few (eqb w.taken 0) absent (part_in w c.slots (w.taken - 1)) refl (at_most w.added (w.taken - 1)),
      some w.added w.taken d.begun,
      at_most w.added w.taken,
      few (ltb (w.taken + 1) (chunks w.pairs)) (part_in w c.slots (w.taken + 1)) absent (at_most w.added (w.taken + 1)) refl,
    )
