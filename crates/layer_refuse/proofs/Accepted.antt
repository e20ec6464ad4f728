-- A call over a layer that no shared row refuses: the layer can be read, the byte planes fit, and the rest refuses
-- nothing. Assumes nothing.
use mathlib.Core.Path.{◌≡◌, refl}
use mathlib.Core.Bool.{Bool, true, false, not, cond, ◌&&◌}
use mathlib.Core.List.{List}
use Prim.Native.Nat.{ℕ, ◌*◌, ◌/◌}
use native.Mathlib.Omega.{arith}
use borrow.Author.Tests.{leb-true}
use lib.Dec.{leb}
use lib.ListN.{length}
use Rattle.std.proofs.lemmas.Bool.{and_parts}
use Rattle.rules.specs.Forms.{Plane, plane_size}
use Rattle.rules.specs.Domain.{are_sizes, is_ratio, is_pitch, have_pitches, have_lengths, layer_pitches, layer_lengths}
use Rattle.rules.specs.Refusals.{Table, first_fitting, layer_rows}
use Rattle.laws.proofs.Accepted.{sizes_in, ratio_in, pitch_in}
use Rattle.layer_lent.specs.declared.Shape.{Shape}
use Rattle.layer_lent.specs.Lent.{lay, plan_of, Formed, Sound, Held}
use Rattle.layer_lent.proofs.Plans.{planned_in}

-- no row fits
record Passed (a b c d e f g : Bool) (rest : ℕ) : Type 0 where
  first : a ≡ true
  second : b ≡ true
  third : c ≡ true
  fourth : d ≡ true
  fifth : e ≡ true
  sixth : f ≡ true
  seventh : g ≡ true
  last : rest ≡ 0

passed : (a b c d e f g : Bool) (rest : ℕ)
    → cond (not a) 1 (cond (not b) 1 (cond (not c) 2 (cond (not d) 3 (cond (not e) 3 (cond (not f) 4 (cond (not g) 4 rest)))))) ≡ 0 → Passed a b c d e f g rest
passed true true true true true true true rest z =
    record { first = refl; second = refl; third = refl; fourth = refl; fifth = refl; sixth = refl; seventh = refl; last = z }
passed true true true true true true false rest z = absurd (omega arith)
passed true true true true true false g rest z = absurd (omega arith)
passed true true true true false f g rest z = absurd (omega arith)
passed true true true false e f g rest z = absurd (omega arith)
passed true true false d e f g rest z = absurd (omega arith)
passed true false c d e f g rest z = absurd (omega arith)
passed false b c d e f g rest z = absurd (omega arith)

-- what an accepted call may rely on
pub record Accepted (s : Shape) (held : Held) (lent : List Plane) (rest : Table) : Type 0 where
  pub sound : Sound (plan_of s) held
  pub pitches : have_pitches lent (plane_size (lay s held) s.plane) ≡ true
  pub lengths : have_lengths lent (plane_size (lay s held) s.plane) ≡ true
  pub more : first_fitting rest ≡ 0

module _ (s : Shape) (held : Held) (lent : List Plane) (rest : Table) where
  pub accepted : first_fitting (layer_rows (lay s held) s.plane lent rest) ≡ 0 → Accepted s held lent rest
  unfolding first_fitting
  accepted e =
      let w = s.width in
      let h = s.height in
      let r = s.ratio in
      let size = plane_size (lay s held) s.plane in
      let t = passed (leb s.plane 2) (are_sizes (w, h)) (is_ratio r (w, h)) (layer_pitches (lay s held)) (have_pitches lent size) (have_lengths lent size) (layer_lengths (lay s held)) (first_fitting rest) e in
      let sizes = sizes_in (w, h) t.second in
      let shrinks = ratio_in (w, h) r sizes t.third in
      let p = and_parts (is_pitch s.luma_pitch w) (is_pitch s.chroma_pitch (w / r)) t.fourth in
      let nl = leb (2 * (s.luma_pitch * h)) (length (held 0)) in
      let na = leb (2 * (s.chroma_pitch * (h / r))) (length (held 1)) in
      let q = and_parts (nl && na) (leb (2 * (s.chroma_pitch * (h / r))) (length (held 2))) t.seventh in
      let k = and_parts nl na q.0 in
      let formed : Formed s = record {
        wide = sizes.0;
        tall = sizes.1;
        ratio = shrinks.few;
        power = shrinks.power;
        whole_across = shrinks.whole_across;
        whole_down = shrinks.whole_down;
        luma_pitch = pitch_in s.luma_pitch w p.0;
        chroma_pitch = pitch_in s.chroma_pitch (w / r) p.1;
      } in
      record {
        sound = record {
          planned = planned_in s formed;
          luma_long = leb-true _ _ k.0;
          first_long = leb-true _ _ k.1;
          second_long = leb-true _ _ q.1;
        };
        pitches = t.fifth;
        lengths = t.sixth;
        more = t.last;
      }
