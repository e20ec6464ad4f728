-- A call of render, as its parameters give it, and what it answers and leaves.
use Rattle.std.specs.Prelude.{◌≡◌, ◌≤◌, List, ℕ, ℤ, Result, IfOk}
use Rattle.rules.specs.declared.Refusal.{Refusal}
use Rattle.rules.specs.Calls.{RenderCall}
use Rattle.rules.specs.Refusals.{answered}
use Rattle.rules.specs.Render.{render_answer, render_leaves}
use Rattle.calls.specs.Lent.{render_call}
use Rattle.layer_lent.specs.declared.Shape.{Shape}
use Rattle.layer_lent.specs.Lent.{Bytes, lay, output_by, frames_by, Held}
use Rattle.motion.specs.declared.Grid.{Grid}
use Rattle.motion.specs.Moves.{motion_of}

abbrev pub render_by : Shape → Held → (output : List ℕ) → (frames fields : Bytes) → Grid → (algo : ℤ) → RenderCall
render_by s held output frames fields g algo =
    render_call (lay s held) s.plane (output_by s output) (frames_by s frames) (motion_of fields g) algo

-- the equation, for accepted and refused calls; a count is at most that of a plane's pixels
pub record Rendered (c : RenderCall) (left : List ℕ) (r : Result ℕ Refusal) : Type 0 where
  pub answer : answered r ≡ render_answer c
  pub bytes : left ≡ render_leaves c
  pub few : IfOk r (λ n. n ≤ 16777216)
