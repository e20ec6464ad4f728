-- A call that is refused, and one that is run; and what the run may rely on. Assumes nothing.
use mathlib.Core.Path.{◌≡◌, sym, ap, ◌∙◌}
use mathlib.Core.Bool.{Bool, true, ◌&&◌}
use mathlib.Core.List.{List, [], ◌∷◌}
use Prim.Native.Nat.{ℕ, ◌/◌, ◌≤◌}
use native.Mathlib.Omega.{arith}
use Rattle.std.specs.Prelude.{Ok, Err}
use Rattle.rules.specs.declared.Refusal.{Refusal}
use Rattle.rules.specs.Forms.{Rule, Plane, painted, counted, each, answer, leaves}
use Rattle.rules.specs.Domain.{is_pitch, is_plane}
use Rattle.rules.specs.Refusals.{Table, number_of, first_fitting, layer_rows, peel_refusal, unpeel_refusal}
use Rattle.laws.proofs.Accepted.{both}
use Rattle.laws.proofs.Answered.{stays, goes, answers_refused, answers_count}
use Rattle.plane.specs.Done.{RowsDone}
use Rattle.motion_limits.proofs.Accepted.{plane_in}
use Rattle.layer_lent.specs.declared.Plan.{Plan}
use Rattle.layer_lent.specs.declared.Shape.{Shape}
use Rattle.layer_lent.specs.Lent.{Bytes, lay, output_by, first_by, second_by, ratio_of, plan_of, Planned, Sound, Held}
use Rattle.sample.specs.Points.{PlaneFits}
use Rattle.lift_rows.specs.Rows.{RowsAsk}
use Rattle.layer_refuse.specs.Rows.{peel_by, unpeel_by}
use Rattle.layer_refuse.proofs.Accepted.{accepted}
use Rattle.plane.specs.Slices.{slice}
use Rattle.peel.specs.Call.{PlaneAnswered}

pub refused : (r : Refusal) (number count : ℕ) (new old : List ℕ) → number_of r ≡ number
    → PlaneAnswered (answer number count) (leaves number new old) old (Err r)
refused r number count new old e =
    record { answer_is = answers_refused r number count e; bytes = sym (stays r number new old e); few = tt }

pub ran : (number : ℕ) (rule : Rule) (width height pitch : ℕ) (before left : List ℕ) (n : ℕ) → 0 ≡ number → height ≤ 4096
    → RowsDone rule width height pitch before left n
    → PlaneAnswered (answer number (counted rule (width, height)))
    (leaves number (painted rule (width, height) (record { bytes = before; pitch = pitch })) before) left (Ok n)
ran number rule width height pitch before left n z low done =
    record {
      answer_is = answers_count number n z ∙ ap (answer number) done.tally;
      bytes = done.bytes ∙ sym (goes number _ before z);
      few = omega (arith, done.few);
    }

-- a byte plane over the plane that is worked on
abbrev Over : Plan → (raw : List ℕ) → (pitch : ℕ) → Type 0
Over p raw pitch = PlaneFits raw pitch p.across p.down

-- what a pass asks of a layer and its byte planes
pub record Runs (s : Shape) (held : Held) (frames : Bytes) (output : List ℕ) : Type 0 where
  pub sound : Sound (plan_of s) held
  pub first : Over (plan_of s) (slice frames 0) s.first_pitch
  pub second : Over (plan_of s) (slice frames 1) s.second_pitch
  pub room : RowsAsk (plan_of s) output

module _ (s : Shape) (held : Held) (output : List ℕ) where
  abbrev narrow : Plane → Bool
  narrow p = is_pitch p.pitch (s.width / ratio_of s)

  abbrev long : Plane → Bool
  long p = is_plane p (s.width / ratio_of s, s.height / ratio_of s)

  -- the byte planes of an accepted call, over the plane that is worked on
  fits : Planned (plan_of s) → (p : Plane) → narrow p ≡ true → long p ≡ true → Over (plan_of s) p.bytes p.pitch
  fits h p n l = plane_in p.bytes p.pitch (s.width / ratio_of s) (s.height / ratio_of s) h.wide h.tall n l

  room : Planned (plan_of s) → narrow (output_by s output) ≡ true → long (output_by s output) ≡ true → RowsAsk (plan_of s) output
  room h n l = let over = fits h (output_by s output) n l in record { apart = over.apart; long = over.long }

  -- peel's frames are one
  pub peel_runs : (frames : Bytes) → peel_refusal (peel_by s held output frames) ≡ 0
      → Sound (plan_of s) held × Over (plan_of s) (slice frames 0) s.first_pitch × RowsAsk (plan_of s) output
  unfolding peel_refusal each
  peel_runs frames e =
      let o = output_by s output in
      let raw = first_by s frames in
      let t = accepted s held (o ∷ raw ∷ []) [] e in
      let h = t.sound.planned in
      let n = both (narrow o) (narrow raw && true) t.pitches in
      let m = both (long o) (long raw && true) t.lengths in
      (t.sound, fits h raw (both (narrow raw) true n.1).0 (both (long raw) true m.1).0, room h n.0 m.0)

  -- an output and a plane of each frame, whatever rows come after theirs
  pub frames_run : (frames : Bytes) (rest : Table) → first_fitting (layer_rows (lay s held) s.plane (output_by s output ∷ first_by s frames ∷ second_by s frames ∷ []) rest) ≡ 0
      → Runs s held frames output × (first_fitting rest ≡ 0)
  unfolding each
  frames_run frames rest e =
      let o = output_by s output in
      let first = first_by s frames in
      let second = second_by s frames in
      let t = accepted s held (o ∷ first ∷ second ∷ []) rest e in
      let h = t.sound.planned in
      let n = both (narrow o) (narrow first && (narrow second && true)) t.pitches in
      let m = both (long o) (long first && (long second && true)) t.lengths in
      let n' = both (narrow first) (narrow second && true) n.1 in
      let m' = both (long first) (long second && true) m.1 in (
        record {
          sound = t.sound;
          first = fits h first n'.0 m'.0;
          second = fits h second (both (narrow second) true n'.1).0 (both (long second) true m'.1).0;
          room = room h n.0 m.0;
        },
        t.more,
      )

  pub unpeel_runs : (frames : Bytes) → unpeel_refusal (unpeel_by s held output frames) ≡ 0 → Runs s held frames output
  unfolding unpeel_refusal
  unpeel_runs frames e = (frames_run frames _ e).0
