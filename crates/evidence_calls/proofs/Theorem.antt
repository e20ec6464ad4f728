-- Demand 3 of the exported calls, from the theorem of the definitions. Assumes nothing.
use mathlib.Core.Path.{◌≡◌, refl, sym, ap, subst, subst₂}
use mathlib.Core.Bool.{Bool, true}
use mathlib.Core.List.{List}
use Prim.Native.Nat.{ℕ, ◌+◌, ◌*◌, ◌/◌, ◌%◌, ◌≤◌}
use native.Mathlib.Omega.{arith}
use borrow.Author.Tests.{leb-true}
use lib.Dec.{leb}
use Rattle.rules.specs.Forms.{Fit, Layer, each}
use Rattle.rules.specs.Calls.{FitCall}
use Rattle.rules.specs.Refusals.{Table, first_fitting, peel_refusal, unpeel_refusal, render_refusal, fit_refusal}
use Rattle.rules.specs.Fit.{fit_leaves}
use Rattle.rules.specs.Host.{number_in}
use Rattle.rules.specs.Reading.{as_left}
use Rattle.laws.proofs.Accepted.{number_passes}
use Rattle.calls.specs.Lent.{plane_of}
use Rattle.told.specs.Told.{Told}
use Rattle.evidence.specs.Evidence.{layer_left, Later, peel_luma, unpeel_luma, render_plane, run, Keeps}
use Rattle.evidence.proofs.Theorem.{demand_three}
use Rattle.evidence_bytes.specs.Written.{through_bytes}
use Rattle.evidence_bytes.proofs.Back.{left_short}
use Rattle.evidence_calls.specs.Calls.{FitTold, LaterTold, plane_left, KeepsCall, KeepsLeft, DemandThreeCalls, DemandThreeByteCalls}

-- ---- an answer, taken apart: a refusal's number is a byte, so it is the answer's low byte

abbrev pub is_byte : ℕ → Bool
is_byte n = leb n 255

pub few : (t : Table) → each (λ row. is_byte row.0) t ≡ true → first_fitting t ≤ 255
few t e = leb-true _ _ (number_passes is_byte t refl e)

pub low : (k n r : ℕ) → n ≤ 255 → r ≡ k * 256 + n → r % 256 ≡ 0 → n ≡ 0
low k n r = omega arith

high : (k n r : ℕ) → n ≤ 255 → r ≡ k * 256 + n → r / 256 ≡ k
high k n r = omega arith

-- ---- the later call

-- the contracts say what `run` has
told : (call : Later) (l : Layer) {left : List ℕ} {r : ℕ} → LaterTold call l left r → Told (run call l).answer (run call l).output.bytes left r
told (peel_luma output raw) l t = t
told (unpeel_luma output frames) l t = t
told (render_plane plane output frames motion algo) l t = t

number_few : (call : Later) (l : Layer) → (run call l).answer.number ≤ 255
unfolding peel_refusal unpeel_refusal render_refusal each
number_few (peel_luma output raw) l = few _ refl
number_few (unpeel_luma output frames) l = few _ refl
number_few (render_plane plane output frames motion algo) l = few _ refl

output_is : (call : Later) (l : Layer) {left : List ℕ} → left ≡ (run call l).output.bytes → plane_left call left ≡ (run call l).output
output_is (peel_luma output raw) l e = ap (λ (b : List ℕ). plane_of b output.pitch) e
output_is (unpeel_luma output frames) l e = ap (λ (b : List ℕ). plane_of b output.pitch) e
output_is (render_plane plane output frames motion algo) l e = ap (λ (b : List ℕ). plane_of b output.pitch) e

keeps_left : (l l' : Layer) → Keeps l l' → KeepsLeft l l'
keeps_left l l' k = record { layers = k; later = later }
  where
    later : (call : Later) (left left' : List ℕ) (r r' : ℕ) → LaterTold call l left r → LaterTold call l' left' r' → number_in r ≡ 0 → number_in r' ≡ 0
        → KeepsCall call l l' left left' r r'
    later call left left' r r' t t' e e' =
        let a = told call l t in
        let a' = told call l' t' in
        let n = number_few call l in
        let n' = number_few call l' in
        let s = k.later call (low _ _ r n a.told e) (low _ _ r' n' a'.told e') in
        record {
          written = s.written;
          count = rw (high _ _ r n a.told, high _ _ r' n' a'.told) s.count;
          bytes = λ x y w p. rw (output_is call l a.slice, output_is call l' a'.slice) (s.bytes x y w p);
        }

-- ---- the fits

refusal_few : (c : FitCall) → fit_refusal c ≤ 255
unfolding fit_refusal each
refusal_few c = few _ refl

accepted : (c : FitCall) (left : Fit) (r : ℕ) → FitTold c left r → number_in r ≡ 0 → fit_refusal c ≡ 0
accepted c left r t e = low 0 (fit_refusal c) r (refusal_few c) t.told e

layer_left_lem : (c : FitCall) (left : Fit) (r : ℕ) → FitTold c left r → as_left left c.size c.ratio ≡ layer_left c
layer_left_lem c left r t = rw (t.luma_left, t.chroma1_left, t.chroma2_left)

pub demand_three_calls : DemandThreeCalls
demand_three_calls first second twice left left' r r' t t' e e' =
    rw (layer_left_lem first left r t, layer_left_lem second left' r' t')
    (keeps_left _ _ (demand_three first second twice (accepted first left r t e) (accepted second left' r' t' e')))

-- ---- the fits, with their layers lent as bytes

through : (c : FitCall) (left : Fit) (r : ℕ) → FitTold c left r → number_in r ≡ 0 → as_left (through_bytes left) c.size c.ratio ≡ as_left left c.size c.ratio
through c left r t e =
    let is : left ≡ fit_leaves c = rw (t.luma_left, t.chroma1_left, t.chroma2_left) in
    ap (λ (f : Fit). as_left f c.size c.ratio) (subst (λ (f : Fit). through_bytes f ≡ f) (sym is) (left_short c (accepted c left r t e)))

pub demand_three_byte_calls : DemandThreeByteCalls
demand_three_byte_calls first second twice left left' r r' t t' e e' =
    subst₂ (λ (l l' : Layer). KeepsLeft l l') (sym (through first left r t e)) (sym (through second left' r' t' e'))
    (demand_three_calls first second twice left left' r r' t t' e e')
