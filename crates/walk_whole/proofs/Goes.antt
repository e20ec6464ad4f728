-- Every walk can go on. Assumes nothing.
use mathlib.Core.Path.{◌≡◌, refl, sym, ◌∙◌}
use mathlib.Core.Bool.{Bool, true, false, cond, false≢true}
use mathlib.Core.Logic.{◌⊎◌, inl, inr}
use mathlib.Core.List.{List, [], ◌∷◌}
use Prim.Native.Nat.{ℕ, zero, suc, ◌+◌, ◌-◌, ◌*◌, ◌%◌, ◌≤◌, ◌<◌}
use native.Mathlib.Omega.{arith}
use borrow.Author.Tests.{eqb-true, leb-true, leb-false, eq-eqb, lt-ltb}
use lib.Dec.{leb, eqb}
use lib.ListN.{length, set, length-set}
use lib.Ieee.{Float}
use Rattle.std.proofs.lemmas.Bool.{and_parts}
use Rattle.rules.specs.declared.Walk.{Walk}
use Rattle.rules.specs.Forms.{Plane, Motion, Pair, each, area}
use Rattle.rules.specs.Literals.{0·0, 0·5, 255·0, 65536·0}
use Rattle.rules.specs.Float.{within}
use Rattle.rules.specs.Calls.{WalkPairCall}
use Rattle.rules.specs.Domain.{sums_length, chroma_sums_length, kept_length, are_exact, are_sizes, is_ratio, are_slots, is_fit, are_models, is_cover}
use Rattle.rules.specs.Refusals.{first_fitting, pair_rows, work_rows}
use Rattle.rules.specs.Stats.{added, stats_sums}
use Rattle.rules.specs.Walk.{chunks, chunk_of, is_due, is_left, is_turn, walk_size, moved, started, walk_start_refusal, pair_stats, walk_pair_refusal, pair_slots, layer_fit, walk_layer_refusal}
use Rattle.laws.proofs.Accepted.{row_right}
use Rattle.laws.proofs.Lists.{length-tabulate}
use Rattle.walk_laws.proofs.Due.{Ready, ready_in, ready_out, Left, left_out}
use Rattle.walk_laws.proofs.Accepted.{pair_right, one_row, turn}
use Rattle.walk_whole.specs.Calls.{Stand, Asked, Call, pair_call, layer_call, handed, taken, after, after_all}
use Rattle.walk_whole.specs.Whole.{GoesOn, EachGoesOn}

-- ---- what holds along a walk

pub record Fine (s : Stand) : Type 0 where
  pub sizes : are_sizes (walk_size s.walk) ≡ true
  pub ratio : is_ratio s.walk.ratio (walk_size s.walk) ≡ true
  pub three : length s.slots ≡ 3
  pub lengths : are_slots s.slots (walk_size s.walk) s.walk.ratio ≡ true
  pub left : Left s.walk

-- the walk with a pair more, or a layer

one_back : (n : ℕ) → n + 1 - 1 ≡ n
one_back n = omega arith

left_pair : (w : Walk) → Left w → w.added < w.pairs → is_due w ≡ false → Left (moved w (w.added + 1) w.taken)
left_pair w l more idle = record { inside = omega (arith, more); last = last l.last; next = inr next }
  where
    last : (w.taken ≡ 0) ⊎ Ready w.pairs w.added (w.taken - 1) → (w.taken ≡ 0) ⊎ Ready w.pairs (w.added + 1) (w.taken - 1)
    last (inl z) = inl z
    last (inr r) = inr (record { exists = r.exists; complete = still r.complete })
      where
        still : (12 * (w.taken - 1 + 2) ≤ w.added) ⊎ (w.added ≡ w.pairs) → (12 * (w.taken - 1 + 2) ≤ w.added + 1) ⊎ (w.added + 1 ≡ w.pairs)
        still (inl h) = inl (omega (arith, h))
        still (inr e) = absurd (omega (arith, e, more))

    next : Ready w.pairs (w.added + 1 - 1) w.taken → ⊥
    next r = false≢true (sym idle ∙ ready_out w.pairs w.added w.taken (rw (one_back w.added) at r))

left_layer : (w : Walk) → Left w → is_due w ≡ true → Left (moved w w.added (w.taken + 1))
left_layer w l due = record { inside = l.inside; last = inr (rw (one_back w.taken) (ready_in w.pairs w.added w.taken due)); next = next l.next }
  where
    next : (w.added ≡ 0) ⊎ (Ready w.pairs (w.added - 1) w.taken → ⊥) → (w.added ≡ 0) ⊎ (Ready w.pairs (w.added - 1) (w.taken + 1) → ⊥)
    next (inl z) = inl z
    next (inr f) = inr (λ r. f (record { exists = omega (arith, r.exists); complete = sooner r.complete }))
      where
        sooner : (12 * (w.taken + 1 + 2) ≤ w.added - 1) ⊎ (w.added - 1 ≡ w.pairs) → (12 * (w.taken + 2) ≤ w.added - 1) ⊎ (w.added - 1 ≡ w.pairs)
        sooner (inl h) = inl (omega (arith, h))
        sooner (inr e) = inr e

-- the sums keep their lengths

each_set : {A : Type 0} (test : A → Bool) (list : List A) (k : ℕ) (a : A) → each test list ≡ true → test a ≡ true → each test (set list k a) ≡ true
unfolding each
each_set test [] k a e h = refl
each_set test (x ∷ xs) zero a e h = rw h (and_parts (test x) (each test xs) e).1
each_set test (x ∷ xs) (suc k) a e h = let t = and_parts (test x) (each test xs) e in rw t.0 (each_set test xs k a t.1 h)

exact_out : (luma : List Float) (chroma : List Float × List Float) (lengths : ℕ × ℕ) → length luma ≡ lengths.0 → length chroma.0 ≡ lengths.1 → length chroma.1 ≡ lengths.1
    → are_exact luma chroma lengths ≡ true
exact_out luma chroma lengths a b c = rw (eq-eqb _ _ a, eq-eqb _ _ b, eq-eqb _ _ c)

added_long : (pairs many : ℕ) (old : List Float) (first second : Plane) (m : Motion) (size : ℕ × ℕ) (ratio : ℕ) → length (added pairs many old first second m size ratio) ≡ many * area size
unfolding added
added_long pairs many old first second m size ratio = length-tabulate (many * area size) _

summed_long : (c : WalkPairCall) → let p = stats_sums (pair_stats c) in are_exact p.luma p.chroma (sums_length (walk_size c.walk), chroma_sums_length (walk_size c.walk) c.walk.ratio) ≡ true
unfolding stats_sums
summed_long c =
    let p = stats_sums (pair_stats c) in
    let size = walk_size c.walk in
    exact_out p.luma p.chroma (sums_length size, chroma_sums_length size c.walk.ratio) (added_long _ _ _ _ _ _ _ _) (added_long _ _ _ _ _ _ _ _) (added_long _ _ _ _ _ _ _ _)

-- ---- from call to call

fine_pair : (s : Stand) (number : ℕ) (p : Pair) → Fine s → walk_pair_refusal (handed s number p) ≡ 0
    → Fine (record { walk = moved s.walk (s.walk.added + 1) s.walk.taken; slots = pair_slots (handed s number p) })
unfolding pair_slots
fine_pair s number p f e =
    let t = turn (handed s number p) e in
    record {
      sizes = f.sizes;
      ratio = f.ratio;
      three = length-set s.slots (chunk_of s.walk.added % 3) _ ∙ f.three;
      lengths = each_set _ s.slots (chunk_of s.walk.added % 3) _ f.lengths (summed_long (handed s number p));
      left = left_pair s.walk f.left t.more t.none;
    }

fine_layer : (s : Stand) (asked : Asked) → Fine s → walk_layer_refusal (taken s asked) ≡ 0
    → Fine (record { walk = moved s.walk s.walk.added (s.walk.taken + 1); slots = s.slots })
unfolding walk_layer_refusal
fine_layer s asked f e =
    let t = and_parts (is_left s.walk) (is_due s.walk) (row_right _ refl e 9 _ refl) in
    record { sizes = f.sizes; ratio = f.ratio; three = f.three; lengths = f.lengths; left = left_layer s.walk f.left t.1 }

fine_call : (s : Stand) (c : Call) → Fine s → Fine (after s c)
fine_call s (pair_call number p) f = go (eqb (walk_pair_refusal c) 0) (eqb-true (walk_pair_refusal c) 0)
  where
    c : WalkPairCall
    c = handed s number p

    go : (t : Bool) → (t ≡ true → walk_pair_refusal c ≡ 0)
        → Fine (record { walk = cond t (moved s.walk (s.walk.added + 1) s.walk.taken) s.walk; slots = cond t (pair_slots c) s.slots })
    go true e = fine_pair s number p f (e refl)
    go false e = f
fine_call s (layer_call asked) f = go (eqb (walk_layer_refusal (taken s asked)) 0) (eqb-true (walk_layer_refusal (taken s asked)) 0)
  where
    go : (t : Bool) → (t ≡ true → walk_layer_refusal (taken s asked) ≡ 0)
        → Fine (record { walk = cond t (moved s.walk s.walk.added (s.walk.taken + 1)) s.walk; slots = s.slots })
    go true e = fine_layer s asked f (e refl)
    go false e = f

fine_all : (s : Stand) (calls : List Call) → Fine s → Fine (after_all s calls)
unfolding after_all
fine_all s [] f = f
fine_all s (c ∷ rest) f = fine_all (after s c) rest (fine_call s c f)

-- ---- so it can go on

-- where the clip is complete and no layer is due, all were taken
all_taken : (w : Walk) → Left w → is_due w ≡ false → w.added ≡ w.pairs → w.taken ≡ chunks w.pairs
all_taken w l idle e = go (leb (chunks w.pairs) w.taken) (leb-true _ _) (leb-false _ _)
  where
    most : (w.taken ≡ 0) ⊎ Ready w.pairs w.added (w.taken - 1) → w.taken ≤ chunks w.pairs
    most (inl z) = omega (arith, z)
    most (inr r) = omega (arith, r.exists)

    go : (t : Bool) → (t ≡ true → chunks w.pairs ≤ w.taken) → (t ≡ false → w.taken < chunks w.pairs) → w.taken ≡ chunks w.pairs
    go true f g = omega (arith, f refl, most l.last)
    go false f g = absurd (false≢true (sym idle ∙ ready_out w.pairs w.added w.taken (record { exists = g refl; complete = inr e })))

module _ (s : Stand) (f : Fine s) where
  turned : is_due s.walk ≡ false → s.walk.added < s.walk.pairs → is_turn s.walk s.walk.added ≡ true
  turned idle more =
      rw (left_out s.walk f.left, eq-eqb s.walk.added s.walk.added refl, lt-ltb s.walk.added s.walk.pairs more, idle)

  takes_pair : is_due s.walk ≡ false → s.walk.added < s.walk.pairs → (p : Pair)
      → let c = handed s s.walk.added p in first_fitting (pair_rows (pair_stats c) true []) ≡ 0 → walk_pair_refusal c ≡ 0
  unfolding walk_pair_refusal
  takes_pair idle more p e =
      pair_right (pair_stats (handed s s.walk.added p)) true _ [] _ refl e f.lengths (one_row 12 (is_turn s.walk s.walk.added) (turned idle more))

  gives_layer : is_due s.walk ≡ true → (asked : Asked) → let c = taken s asked in first_fitting (work_rows (layer_fit c) []) ≡ 0 → walk_layer_refusal c ≡ 0
  unfolding walk_layer_refusal first_fitting
  gives_layer due asked e =
      let size = walk_size s.walk in
      let ok = row_right (work_rows (layer_fit (taken s asked)) []) refl e in
      rw (
        f.sizes,
        f.ratio,
        f.lengths,
        ok 0 (are_models asked.models size) refl,
        ok 1 (eqb (length asked.kept) (kept_length size)) refl,
        ok 2 (is_cover asked.cover size) refl,
        ok 3 (is_fit asked.output size s.walk.ratio) refl,
        ok 4 (within asked.limit 0·5 255·0) refl,
        ok 5 (within asked.evidence 0·0 65536·0) refl,
        left_out s.walk f.left,
        due,
      )

  goes_on : GoesOn s
  goes_on = record { left = left_out s.walk f.left; pair = takes_pair; layer = gives_layer; done = all_taken s.walk f.left }

pub each_goes_on : EachGoesOn
unfolding walk_start_refusal
each_goes_on size ratio pairs slots e three lengths calls =
    let ok = row_right _ refl e in
    let begun : Fine (record { walk = started size ratio pairs; slots = slots }) =
    record {
      sizes = ok 0 (are_sizes size) refl;
      ratio = ok 1 (is_ratio ratio size) refl;
      three = three;
      lengths = lengths;
      left = record { inside = omega arith; last = inl refl; next = inl refl };
    } in
    rw e (goes_on _ (fine_all _ calls begun))
