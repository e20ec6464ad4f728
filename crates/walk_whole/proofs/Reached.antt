-- Every walk that is_left takes is left by some calls. Assumes nothing.
use mathlib.Core.Path.{◌≡◌, refl, sym, ap, subst, ◌∙◌}
use mathlib.Core.Bool.{Bool, true, false, false≢true}
use mathlib.Core.Logic.{◌⊎◌, inl, inr}
use mathlib.Core.List.{List, [], ◌∷◌, ◌++◌}
use Prim.Native.Nat.{ℕ, zero, suc, ◌+◌, ◌-◌, ◌*◌, ◌≤◌, ◌<◌}
use native.Mathlib.Numerals.{add-one}
use native.Mathlib.Omega.{arith}
use borrow.Author.Tests.{le-leb, eq-eqb}
use lib.Dec.{eqb}
use lib.IntN.{pos}
use lib.ListN.{length, replicate, length-replicate}
use lib.Ieee as Ieee
use Rattle.std.proofs.lemmas.Bool.{and_parts}
use Rattle.rules.specs.declared.Walk.{Walk}
use Rattle.rules.specs.Forms.{Plane, Pair, Slot, each, shrunk}
use Rattle.rules.specs.Literals.{0·0, 0·5, 2·0, 255·0, 65536·0}
use Rattle.rules.specs.Float.{within}
use Rattle.rules.specs.Domain.{plane_length, models_length, kept_length, cover_length, fit_length, fit_chroma_length, are_sizes, is_ratio, is_pitch, is_plane, are_slots}
use Rattle.rules.specs.Refusals.{first_fitting, pair_rows, work_rows}
use Rattle.rules.specs.Walk.{is_ready, is_due, is_left, walk_size, moved, walk_start_refusal, pair_stats, walk_pair_refusal, layer_fit, walk_layer_refusal}
use Rattle.laws.proofs.Accepted.{row_right, Side, sizes_in, ratio_in}
use Rattle.walk_laws.proofs.Due.{Ready, ready_in, ready_out, Left, left_in}
use Rattle.walk_laws.proofs.Accepted.{turn}
use Rattle.walk_whole.specs.Calls.{Stand, Asked, Call, pair_call, layer_call, handed, taken, begin, after, after_all}
use Rattle.walk_whole.specs.Whole.{GoesOn, Reached, EachReached, PairReached, LayerReached}
use Rattle.walk_whole.specs.Shown.{still}
use Rattle.walk_whole.proofs.Along.{behind}
use Rattle.walk_whole.proofs.Goes.{each_goes_on}

-- ---- a pair inside 01's limits, for every size and ratio

-- a plane of zeros, without padding
abbrev plain : ℕ × ℕ → Plane
plain size = record { bytes = replicate (plane_length size.0 size) 0; pitch = size.0 }

-- two frames of such planes, and nothing moves
abbrev blank : (size : ℕ × ℕ) → (ratio : ℕ) → Pair
blank size ratio =
    let luma = plain size in
    let chroma = plain (shrunk size ratio) in
    record { first = (luma, chroma, chroma); second = (luma, chroma, chroma); motion = still }

plain_pitch : (size : ℕ × ℕ) → Side size.0 → is_pitch size.0 size.0 ≡ true
plain_pitch size side = rw (le-leb size.0 size.0 (omega arith), le-leb size.0 65536 (omega (arith, side.1)))

plain_long : (size : ℕ × ℕ) → is_plane (plain size) size ≡ true
plain_long size = let n = plane_length size.0 size in le-leb n _ (omega (arith, length-replicate {A = ℕ} n 0))

blank_fits : (s : Stand) (number : ℕ) → let size = walk_size s.walk in let ratio = s.walk.ratio in are_sizes size ≡ true → is_ratio ratio size ≡ true
    → first_fitting (pair_rows (pair_stats (handed s number (blank size ratio))) true []) ≡ 0
unfolding first_fitting each
blank_fits s number sizes divides =
    let size = walk_size s.walk in
    let small = shrunk size s.walk.ratio in
    let sides = sizes_in size sizes in
    rw (
      sizes,
      divides,
      plain_pitch size sides.0,
      plain_pitch small (ratio_in size s.walk.ratio sides divides).across,
      plain_long size,
      plain_long small,
    )

-- ---- and what a layer is taken with, inside fit's

abbrev modest : (size : ℕ × ℕ) → (ratio : ℕ) → Asked
modest size ratio =
    let chroma = replicate (fit_chroma_length size ratio) (pos 0) in
    record {
      limit = 2·0;
      evidence = 2·0;
      strict = false;
      models = replicate (models_length size) 0·0;
      kept = replicate (kept_length size) 0;
      cover = replicate (cover_length size) 0;
      output = record { luma = replicate (fit_length size) (pos 0); chroma = (chroma, chroma) };
    }

-- a list that is made so long is so long
exactly : {A : Type 0} (n : ℕ) (a : A) → eqb (length (replicate n a)) n ≡ true
exactly n a = eq-eqb _ _ (length-replicate n a)

settings : (within 2·0 0·5 255·0 ≡ true) × (within 2·0 0·0 65536·0 ≡ true)
unfolding Ieee.le Ieee.of_bits
settings = (refl, refl)

modest_fits : (s : Stand) → first_fitting (work_rows (layer_fit (taken s (modest (walk_size s.walk) s.walk.ratio))) []) ≡ 0
unfolding first_fitting
modest_fits s =
    let size = walk_size s.walk in
    rw (
      exactly (models_length size) 0·0,
      exactly {A = ℕ} (kept_length size) 0,
      exactly {A = ℕ} (cover_length size) 0,
      exactly (fit_length size) (pos 0),
      exactly (fit_chroma_length size s.walk.ratio) (pos 0),
      settings.0,
      settings.1,
    )

-- ---- what was ready, and what was not

not_ready : (pairs added c : ℕ) → (Ready pairs added c → ⊥) → is_ready pairs added c ≡ false
not_ready pairs added c f = go (is_ready pairs added c) (ready_in pairs added c)
  where
    go : (t : Bool) → (t ≡ true → Ready pairs added c) → t ≡ false
    go true h = absurd (f (h refl))
    go false h = refl

one_less : (n : ℕ) → suc n - 1 ≡ n
one_less n = omega arith

-- a layer that is not ready was not ready a pair earlier
not_before : (pairs added c : ℕ) → added < pairs → (Ready pairs added c → ⊥) → Ready pairs (added - 1) c → ⊥
not_before pairs added c more f r = f (record { exists = r.exists; complete = later r.complete })
  where
    later : (12 * (c + 2) ≤ added - 1) ⊎ (added - 1 ≡ pairs) → (12 * (c + 2) ≤ added) ⊎ (added ≡ pairs)
    later (inl h) = inl (omega (arith, h))
    later (inr e) = absurd (omega (arith, e, more))

-- where one is ready, so is the one before it
ready_before : (pairs added c : ℕ) → Ready pairs added c → Ready pairs added (c - 1)
ready_before pairs added c r = record { exists = omega (arith, r.exists); complete = sooner r.complete }
  where
    sooner : (12 * (c + 2) ≤ added) ⊎ (added ≡ pairs) → (12 * (c - 1 + 2) ≤ added) ⊎ (added ≡ pairs)
    sooner (inl h) = inl (omega (arith, h))
    sooner (inr e) = inr e

-- the last layer was due, and the next was not when the last pair came
was_due : (pairs added c : ℕ) → (suc c ≡ 0) ⊎ Ready pairs added (suc c - 1) → Ready pairs added c
was_due pairs added c (inl z) = absurd (omega (arith, z))
was_due pairs added c (inr r) = rw (one_less c) at r

was_idle : (pairs added c : ℕ) → (suc added ≡ 0) ⊎ (Ready pairs (suc added - 1) c → ⊥) → Ready pairs added c → ⊥
was_idle pairs added c (inl z) r = omega (arith, z)
was_idle pairs added c (inr f) r = f (rw (one_less added) r)

-- before the first pair no layer was taken
none_yet : (pairs n : ℕ) → (n ≡ 0) ⊎ Ready pairs 0 (n - 1) → n ≡ 0
none_yet pairs n (inl z) = z
none_yet pairs n (inr r) = absurd (late r.complete)
  where
    late : (12 * (n - 1 + 2) ≤ 0) ⊎ (0 ≡ pairs) → ⊥
    late (inl h) = omega (arith, h)
    late (inr e) = omega (arith, e, r.exists)

-- ---- calls that lead to a walk

module _ (w : Walk) (slots : List Slot) (e : walk_start_refusal (walk_size w) w.ratio ≡ 0) (three : length slots ≡ 3) (lengths : are_slots slots (walk_size w) w.ratio ≡ true) where
  abbrev start : Stand
  start = begin (walk_size w) w.ratio w.pairs slots

  -- with so many pairs and so many layers
  abbrev At : (added layers : ℕ) → Type 0
  At added layers = Reached (moved w added layers) slots

  at_start : At 0 0
  unfolding after_all
  at_start = record { calls = []; comes = rw e }

  -- one call more
  further : (a n a' n' : ℕ) (c : Call)
      → ((held : List Slot) → let s : Stand = record { walk = moved w a n; slots = held } in GoesOn s → (after s c).walk ≡ moved w a' n') → At a n → At a' n'
  further a n a' n' c step r = record { calls = r.calls ++ c ∷ []; comes = ap (λ (k : Stand). k.walk) (behind start r.calls c) ∙ comes }
    where
      s : Stand
      s = after_all start r.calls

      is : s ≡ record { walk = moved w a n; slots = s.slots }
      is = ap {B = Stand} (λ (k : Walk). record { walk = k; slots = s.slots }) r.comes

      goes : GoesOn s
      goes = each_goes_on (walk_size w) w.ratio w.pairs slots e three lengths r.calls

      comes : (after s c).walk ≡ moved w a' n'
      comes = subst (λ (k : Stand). (after k c).walk ≡ moved w a' n') (sym is) (step s.slots (subst GoesOn is goes))

  pair_more : (a n : ℕ) → is_due (moved w a n) ≡ false → a < w.pairs → At a n → At (a + 1) n
  unfolding walk_start_refusal
  pair_more a n idle more =
      let ok = row_right _ refl e in
      let p = blank (walk_size w) w.ratio in
      further a n (a + 1) n (pair_call a p) (λ held g. rw (g.pair idle more p (blank_fits (record { walk = moved w a n; slots = held }) a (ok 0 _ refl) (ok 1 _ refl))))

  layer_more : (a n : ℕ) → is_due (moved w a n) ≡ true → At a n → At a (n + 1)
  layer_more a n due =
      let asked = modest (walk_size w) w.ratio in
      further a n a (n + 1) (layer_call asked) (λ held g. rw (g.layer due asked (modest_fits (record { walk = moved w a n; slots = held }))))

  -- ---- backwards from a walk that is_left takes

  -- the last call was a pair: one pair less is such a walk too, and no layer is due there
  by_pair : (a n : ℕ) → Left (moved w (suc a) n) → (n ≡ 0) ⊎ Ready w.pairs a (n - 1) → (Left (moved w a n) → At a n) → At (suc a) n
  by_pair a n l last before =
      let idle = was_idle w.pairs a n l.next in
      let left : Left (moved w a n) = record { inside = omega (arith, l.inside); last = last; next = inr (not_before w.pairs a n l.inside idle) } in
      rw (← add-one a) (pair_more a n (not_ready w.pairs a n idle) l.inside (before left))

  -- the last call was a layer: one layer less is such a walk too, and that layer is due there
  by_layer : (a n : ℕ) → Left (moved w a (suc n)) → (Ready w.pairs (a - 1) n → ⊥) → (Left (moved w a n) → At a n) → At a (suc n)
  by_layer a n l idle before =
      let due = was_due w.pairs a n l.last in
      let left : Left (moved w a n) = record { inside = l.inside; last = inr (ready_before w.pairs a n due); next = inr idle } in
      rw (← add-one n) (layer_more a n (ready_out w.pairs a n due) (before left))

  -- with a pair more, if it holds of one less: the last call was a pair where the last layer was ready before that pair
  with_pair : (a : ℕ) → ((n : ℕ) → Left (moved w a n) → At a n) → (n : ℕ) → Left (moved w (suc a) n) → At (suc a) n
  with_pair a before zero l = by_pair a zero l (inl refl) (before zero)
  with_pair a before (suc n) l = go (is_ready w.pairs a n) (ready_in w.pairs a n) (ready_out w.pairs a n) (with_pair a before n)
    where
      go : (t : Bool) → (t ≡ true → Ready w.pairs a n) → (Ready w.pairs a n → t ≡ true) → (Left (moved w (suc a) n) → At (suc a) n) → At (suc a) (suc n)
      go true f g again = by_pair a (suc n) l (inr (rw (one_less n) (f refl))) (before (suc n))
      go false f g again = by_layer (suc a) n l (λ r. false≢true (g (rw (one_less a) at r))) again

  with_pairs : (a n : ℕ) → Left (moved w a n) → At a n
  with_pairs zero n l = rw (none_yet w.pairs n l.last) at_start
  with_pairs (suc a) n l = with_pair a (λ m h. with_pairs a m h) n l

-- ---- the claims

pub each_reached : EachReached
each_reached w slots e three lengths left = with_pairs w slots e three lengths w.added w.taken (left_in w left)

-- a start's table
start_right : (size : ℕ × ℕ) (ratio : ℕ) → are_sizes size ≡ true → is_ratio ratio size ≡ true → walk_start_refusal size ratio ≡ 0
unfolding walk_start_refusal first_fitting
start_right size ratio sizes divides = rw (sizes, divides)

pub pair_reached : PairReached
unfolding walk_pair_refusal
pair_reached s number p three e =
    let ok = row_right _ refl e in
    each_reached s.walk s.slots (start_right (walk_size s.walk) s.walk.ratio (ok 0 _ refl) (ok 1 _ refl)) three (ok 6 _ refl) (turn (handed s number p) e).left

pub layer_reached : LayerReached
unfolding walk_layer_refusal
layer_reached s asked three e =
    let ok = row_right _ refl e in
    let left = (and_parts (is_left s.walk) (is_due s.walk) (ok 9 _ refl)).0 in
    each_reached s.walk s.slots (start_right (walk_size s.walk) s.walk.ratio (ok 0 _ refl) (ok 1 _ refl)) three (ok 2 _ refl) left
