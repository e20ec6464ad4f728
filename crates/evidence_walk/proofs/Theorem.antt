-- The evidence guarantee of a walk, from that of two fits of the clip held together. Assumes nothing.
use mathlib.Core.Path.{◌≡◌, refl, ap, ◌∙◌}
use Prim.Native.Nat.{ℕ, ◌≤◌}
use Rattle.rules.specs.declared.Walked.{Walked}
use Rattle.rules.specs.Forms.{each, uncounted}
use Rattle.rules.specs.Calls.{FitCall, WalkLayerCall}
use Rattle.rules.specs.Refusals.{fit_refusal}
use Rattle.rules.specs.Host.{word, number_in}
use Rattle.rules.specs.Walk.{chunks, walk_layer_refusal}
use Rattle.evidence.specs.Evidence.{FitTwice}
use Rattle.evidence_calls.specs.Calls.{FitTold}
use Rattle.evidence_calls.proofs.Theorem.{few, low, demand_three_calls, demand_three_byte_calls}
use Rattle.walk_whole.specs.Calls.{taken, begin, after_all}
use Rattle.walk_whole.specs.Whole.{whole_fit, Same}
use Rattle.walk_whole.proofs.Layers.{each_layer}
use Rattle.evidence_walk.specs.Walks.{Taking, clip_of, chunk_of, DemandThreeWalks}

-- a walk's answer is accepted where its number is 0
layer_few : (c : WalkLayerCall) → walk_layer_refusal c ≤ 255
unfolding walk_layer_refusal each
layer_few c = few _ refl

module _ (size : ℕ × ℕ) (ratio pairs : ℕ) (t : Taking size ratio pairs) where
  abbrev call : WalkLayerCall
  call = taken (after_all (begin size ratio pairs t.slots) t.before) t.asked

  abbrev whole : FitCall
  whole = whole_fit size ratio (clip_of t) (chunks pairs) (chunk_of t) t.asked

  accepted : walk_layer_refusal call ≡ 0
  accepted = low 0 _ t.answer.word (layer_few call) (ap (λ (r : Walked). r.word) t.took.told) t.accepted

  same : Same call whole
  same = each_layer size ratio pairs t.slots t.three t.before t.asked t.later accepted

  -- the fit of the clip held together would have told and left the same
  fit_told : FitTold whole t.left (word (uncounted (fit_refusal whole)))
  fit_told =
      let left = t.took.slices ∙ same.layer in
      record { told = refl; luma_left = rw left; chroma1_left = rw left; chroma2_left = rw left }

  fit_accepted : number_in (word (uncounted (fit_refusal whole))) ≡ 0
  fit_accepted = rw same.accepted

pub demand_three_walks : DemandThreeWalks
demand_three_walks size ratio pairs first second clips chunk lower =
    let twice : FitTwice (whole size ratio pairs first) (whole size ratio pairs second) =
    record {
      strict = lower.strict;
      evidence = lower.evidence;
      sums = rw (clips, chunk);
      size = refl;
      ratio = refl;
      limit = lower.limit;
    } in
    let a = fit_told size ratio pairs first in
    let b = fit_told size ratio pairs second in
    let e = fit_accepted size ratio pairs first in
    let f = fit_accepted size ratio pairs second in
    record {
      numbers = demand_three_calls _ _ twice first.left second.left _ _ a b e f;
      bytes = demand_three_byte_calls _ _ twice first.left second.left _ _ a b e f;
    }
