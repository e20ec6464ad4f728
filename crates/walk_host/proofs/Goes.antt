-- The contracts of a walk's exported calls, said of the calls before. Assumes nothing.
use mathlib.Core.Path.{◌≡◌, refl, sym, ap, subst, ◌∙◌}
use mathlib.Core.Bool.{true, false}
use mathlib.Core.List.{List, [], ◌∷◌, ◌++◌}
use Prim.Native.Nat.{ℕ, ◌+◌, ◌*◌, ◌<◌}
use lib.ListN.{length}
use lib.Ieee.{Float}
use Rattle.rules.specs.declared.Walk.{Walk}
use Rattle.rules.specs.declared.Walked.{Walked}
use Rattle.rules.specs.Forms.{Pair, Slot, Fit}
use Rattle.rules.specs.Refusals.{first_fitting, fit_refusal, pair_rows, work_rows}
use Rattle.rules.specs.Fit.{fit_leaves}
use Rattle.rules.specs.Host.{number_in}
use Rattle.rules.specs.Walk.{chunks, is_due, walk_start_refusal, walk_start_answer, pair_stats, walk_pair_refusal, layer_fit, walk_layer_refusal}
use Rattle.calls.specs.Lent.{walk_pair_call}
use Rattle.told.specs.Told.{PairTold, LayerTold}
use Rattle.walk_whole.specs.Calls.{Stand, Asked, Call, pair_call, layer_call, taken, after_all, clip, layers}
use Rattle.walk_whole.specs.Whole.{whole_fit, GoesOn, Reached}
use Rattle.walk_whole.proofs.Along.{behind}
use Rattle.walk_whole.proofs.Layers.{each_layer}
use Rattle.walk_whole.proofs.Goes.{each_goes_on}
use Rattle.walk_whole.proofs.Reached.{pair_reached, layer_reached}
use Rattle.answers.specs.Never.{Other, NotAnswered}
use Rattle.answers.proofs.Never.{never_eight, not_answered}
use Rattle.evidence_calls.proofs.Theorem.{low}
use Rattle.evidence_walk.specs.Walks.{Took}
use Rattle.walk_host.specs.Held.{Beginning, from, Comes, Sound, Starts, Hands, Takes}

-- an answer with a walk
not_eight : (n : ℕ) (r s : Walked) → r ≡ s → s.word ≡ 0 * 256 + n → Other n → NotAnswered r.word
not_eight n r s e w o = not_answered 0 n r.word o (ap (λ (s : Walked). s.word) e ∙ w)

pub starts : (size : ℕ × ℕ) (ratio pairs : ℕ) (r : Walked) → r ≡ walk_start_answer size ratio pairs → Starts size ratio pairs r
unfolding after_all
starts size ratio pairs r e =
    record {
      told = e;
      other = not_eight (walk_start_refusal size ratio) r _ e refl (never_eight.walk_start size ratio);
      begins = λ slots. record { walk_is = rw e; slots_are = refl };
    }

-- a stand by its walk and its slots
stands : (b : Beginning) (calls : List Call) (walk : Walk) (slots : List Slot) → Comes b calls walk slots → after_all (from b) calls ≡ record { walk = walk; slots = slots }
stands b calls walk slots h = rw (h.walk_is, h.slots_are)

-- so it can go on
goes_from : (b : Beginning) (calls : List Call) (walk : Walk) (slots : List Slot) → Comes b calls walk slots → Sound b → GoesOn (record { walk = walk; slots = slots })
goes_from b calls walk slots h sound =
    subst GoesOn (stands b calls walk slots h) (each_goes_on b.size b.ratio b.pairs b.slots sound.accepted sound.three sound.lengths calls)

pub hands : (walk : Walk) (slots : List Slot) (number : ℕ) (pair : Pair) (left : List Slot) (r : Walked) → PairTold (walk_pair_call walk slots number pair) left r → Hands walk slots number pair left r
hands walk slots number pair left r t = record { told = t.told; other = not_eight _ r _ t.told refl (never_eight.walk_pair _); goes = goes; accepted = accepted; reached = reached }
  where
    goes : (b : Beginning) (calls : List Call) → Comes b calls walk slots → Comes b (calls ++ pair_call number pair ∷ []) r.walk left
    goes b calls h =
        let s = stands b calls walk slots h in
        record {
          walk_is = rw (behind (from b) calls (pair_call number pair), s, t.told);
          slots_are = rw (behind (from b) calls (pair_call number pair), s) t.slots_left;
        }

    accepted : (b : Beginning) (calls : List Call) → Comes b calls walk slots → Sound b → is_due walk ≡ false → walk.added < walk.pairs → number ≡ walk.added
        → first_fitting (pair_rows (pair_stats (walk_pair_call walk slots number pair)) true []) ≡ 0 → r.word ≡ 0
    accepted b calls h sound idle more own right =
        let g = goes_from b calls walk slots h sound in
        let zero = subst (λ (k : ℕ). walk_pair_refusal (walk_pair_call walk slots k pair) ≡ 0) (sym own) (g.pair idle more pair right) in
        rw (t.told, zero)

    reached : length slots ≡ 3 → number_in r.word ≡ 0 → Reached walk slots
    reached three e =
        let c = walk_pair_call walk slots number pair in
        pair_reached (record { walk = walk; slots = slots }) number pair three (low 0 (walk_pair_refusal c) r.word (never_eight.walk_pair c).byte (ap (λ (r : Walked). r.word) t.told) e)

pub takes : (walk : Walk) (slots : List Slot) (asked : Asked) (left : Fit) (r : Walked) (models : List Float) (kept cover : List ℕ)
    → LayerTold (taken (record { walk = walk; slots = slots }) asked) models kept cover left r → Takes walk slots asked left r
takes walk slots asked left r models kept cover t =
    record {
      told = t.told;
      other = not_eight _ r _ t.told refl (never_eight.walk_layer _);
      goes = goes;
      layer = layer;
      accepted = accepted;
      reached = reached;
      took = took;
    }
  where
    goes : (b : Beginning) (calls : List Call) → Comes b calls walk slots → Comes b (calls ++ layer_call asked ∷ []) r.walk slots
    goes b calls h =
        let s = stands b calls walk slots h in
        record { walk_is = rw (behind (from b) calls (layer_call asked), s, t.told); slots_are = rw (behind (from b) calls (layer_call asked), s) }

    took : (b : Beginning) (calls : List Call) → Comes b calls walk slots → Took (taken (after_all (from b) calls) asked) left r
    took b calls h = rw (stands b calls walk slots h) (record { told = t.told; slices = t.output_left })

    layer : (b : Beginning) (calls : List Call) → Comes b calls walk slots → length b.slots ≡ 3 → number_in r.word ≡ 0 → (later : List Call)
        → let whole = whole_fit b.size b.ratio (clip (from b) (calls ++ layer_call asked ∷ later)) (chunks b.pairs) (layers (from b) calls) asked in
        (fit_refusal whole ≡ 0) × (left ≡ fit_leaves whole)
    layer b calls h three e later =
        let k = took b calls h in
        let c = taken (after_all (from b) calls) asked in
        let zero = low 0 (walk_layer_refusal c) r.word (never_eight.walk_layer c).byte (ap (λ (r : Walked). r.word) k.told) e in
        let same = each_layer b.size b.ratio b.pairs b.slots three calls asked later zero in
        (same.accepted, k.slices ∙ same.layer)

    accepted : (b : Beginning) (calls : List Call) → Comes b calls walk slots → Sound b → is_due walk ≡ true
        → first_fitting (work_rows (layer_fit (taken (record { walk = walk; slots = slots }) asked)) []) ≡ 0 → r.word ≡ 0
    accepted b calls h sound due right = rw (t.told, (goes_from b calls walk slots h sound).layer due asked right)

    reached : length slots ≡ 3 → number_in r.word ≡ 0 → Reached walk slots
    reached three e =
        let s : Stand = record { walk = walk; slots = slots } in
        let c = taken s asked in
        layer_reached s asked three (low 0 (walk_layer_refusal c) r.word (never_eight.walk_layer c).byte (ap (λ (r : Walked). r.word) t.told) e)
