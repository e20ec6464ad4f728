-- A call of render that is not refused can be run; and how each ends. Assumes nothing.
use mathlib.Core.Path.{◌≡◌, refl, sym, ◌∙◌}
use mathlib.Core.Bool.{Bool, true, ◌&&◌}
use mathlib.Core.List.{List, [], ◌∷◌}
use Prim.Native.Nat.{ℕ, ◌/◌, ◌≤◌}
use native.Mathlib.Omega.{arith}
use lib.IntN.{ℤ}
use Rattle.std.specs.Prelude.{Ok, Err}
use Rattle.rules.specs.declared.Refusal.{Refusal}
use Rattle.rules.specs.Calls.{RenderCall}
use Rattle.rules.specs.Forms.{Plane, Motion, each}
use Rattle.rules.specs.Domain.{is_pitch, is_plane, is_time}
use Rattle.rules.specs.Refusals.{Table, ◌unless◌, number_of, first_fitting, layer_rows, motion_rows, render_refusal}
use Rattle.rules.specs.Render.{render_rule}
use Rattle.laws.proofs.Accepted.{both, row_right}
use Rattle.laws.proofs.Answered.{stays, goes, answers_refused, answers_count}
use Rattle.plane.specs.Done.{RowsDone}
use Rattle.plane.specs.Slices.{slice}
use Rattle.sample.specs.Points.{PlaneFits}
use Rattle.layer_lent.specs.declared.Shape.{Shape}
use Rattle.layer_lent.specs.Lent.{Bytes, lay, output_by, first_by, second_by, frames_by, ratio_of, plan_of, Held, Planned, Sound}
use Rattle.lift_rows.specs.Rows.{RowsAsk}
use Rattle.layer_refuse.proofs.Accepted.{accepted}
use Rattle.motion.specs.declared.Grid.{Grid}
use Rattle.motion.specs.Moves.{motion_of, Moves}
use Rattle.motion_limits.proofs.Accepted.{plane_in, moves_in}
use Rattle.render.specs.Call.{render_by, Rendered}

-- what a call needs to be run
pub record Runs (s : Shape) (held : Held) (frames fields : Bytes) (output : List ℕ) (g : Grid) : Type 0 where
  pub sound : Sound (plan_of s) held
  pub first_lies : PlaneFits (slice frames 0) s.first_pitch (plan_of s).across (plan_of s).down
  pub second_lies : PlaneFits (slice frames 1) s.second_pitch (plan_of s).across (plan_of s).down
  pub moves : Moves fields g (plan_of s).span
  pub room : RowsAsk (plan_of s) output

module _ (s : Shape) (p : Planned (plan_of s)) where
  fits : (raw : Plane) → is_pitch raw.pitch (s.width / ratio_of s) ≡ true → is_plane raw (s.width / ratio_of s, s.height / ratio_of s) ≡ true
      → PlaneFits raw.bytes raw.pitch (s.width / ratio_of s) (s.height / ratio_of s)
  fits raw narrow long = plane_in raw.bytes raw.pitch (s.width / ratio_of s) (s.height / ratio_of s) p.wide p.tall narrow long

-- of three tests each holds
three : (a b c : Bool) → (a && (b && (c && true))) ≡ true → (a ≡ true) × (b ≡ true) × (c ≡ true)
three a b c e =
    let t = both a (b && (c && true)) e in
    let u = both b (c && true) t.1 in
    (t.0, u.0, (both c true u.1).0)

module _ (s : Shape) (held : Held) (frames fields : Bytes) (output : List ℕ) (g : Grid) (algo : ℤ)
    (e : 0 ≡ render_refusal (render_by s held output frames fields g algo)) where
  abbrev motion : Motion
  motion = motion_of fields g

  -- the byte planes, and the rows after theirs
  abbrev lent : List Plane
  lent = output_by s output ∷ first_by s frames ∷ second_by s frames ∷ []

  abbrev rest : Table
  rest = motion_rows motion ((6 unless is_time s.time) ∷ [])

  none : first_fitting (layer_rows (lay s held) s.plane lent rest) ≡ 0
  unfolding render_refusal
  none = sym e

  abbrev narrow : Plane → Bool
  narrow p = is_pitch p.pitch (s.width / ratio_of s)

  abbrev long : Plane → Bool
  long p = is_plane p (s.width / ratio_of s, s.height / ratio_of s)

  pub runs : Runs s held frames fields output g
  unfolding each
  runs =
      let t = accepted s held lent rest none in
      let h = t.sound.planned in
      let n = three (narrow (output_by s output)) (narrow (first_by s frames)) (narrow (second_by s frames)) t.pitches in
      let m = three (long (output_by s output)) (long (first_by s frames)) (long (second_by s frames)) t.lengths in
      let over = fits s h (output_by s output) n.0 m.0 in
      let ok = row_right rest refl t.more in
      record {
        sound = t.sound;
        first_lies = fits s h (first_by s frames) n.1 m.1;
        second_lies = fits s h (second_by s frames) n.2 m.2;
        moves = moves_in fields g (plan_of s).span h.span.1 (ok 0 _ refl) (ok 1 _ refl);
        room = record { apart = over.apart; long = over.long };
      }

-- ---- a call ends refused, or run

module _ (s : Shape) (held : Held) (output : List ℕ) (frames fields : Bytes) (g : Grid) (algo : ℤ) where
  abbrev call : RenderCall
  call = render_by s held output frames fields g algo

  pub refused : (r : Refusal) → number_of r ≡ render_refusal call → Rendered call output (Err r)
  refused r e = record { answer = answers_refused r (render_refusal call) _ e; bytes = sym (stays r (render_refusal call) _ output e); few = tt }

  pub ran : (left : List ℕ) (n : ℕ) → 0 ≡ render_refusal call → s.height / ratio_of s ≤ 4096
      → RowsDone (render_rule (lay s held) s.plane (frames_by s frames) (motion_of fields g) algo) (s.width / ratio_of s) (s.height / ratio_of s) s.output_pitch output left n
      → Rendered call left (Ok n)
  ran left n z low done =
      record {
        answer = simp done.tally (answers_count (render_refusal call) _ z);
        bytes = done.bytes ∙ sym (goes (render_refusal call) _ output z);
        few = omega (arith, done.few);
      }
