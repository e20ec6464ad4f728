-- "Peel": the layer taken off.
use Rattle.std.specs.Prelude.{◌&&◌}
use Rattle.rules.specs.Words.{Bool, true, not, List, ℕ, Answer}
use Rattle.rules.specs.Literals.{0·0}
use Rattle.rules.specs.Float.{◌≼◌, float, pixel}
use Rattle.rules.specs.Forms.{Plane, Layer, Rule, plane_size, painted, counted, answer, leaves}
use Rattle.rules.specs.Calls.{PeelCall}
use Rattle.rules.specs.Refusals.{peel_refusal}
use Rattle.rules.specs.Model.{is_plain}
use Rattle.rules.specs.Reading.{gap, texel}
use Rattle.rules.specs.Scene.{value, scene}

-- "exactly the in-plane pixels with gap at most 0 and texel not (1, 0)"
unfoldable pub layered : Layer → (plane x y : ℕ) → Bool
layered l plane x y = (gap l plane x y ≼ 0·0) && not (is_plain (texel l plane x y))

-- a pixel's scene, filled
unfoldable pub peel_rule : Layer → (plane : ℕ) → (raw : Plane) → Rule
peel_rule l plane raw =
    record {
      writes = layered l plane;
      byte = λ x y old. pixel (value (scene l plane raw (float x) (float y) true));
    }

-- its answer
abbrev pub peel_answer : PeelCall → Answer
peel_answer c = answer (peel_refusal c) (counted (peel_rule c.layer c.plane c.raw) (plane_size c.layer c.plane))

-- and what it leaves in the output
abbrev pub peel_leaves : PeelCall → List ℕ
peel_leaves c =
    leaves (peel_refusal c) (painted (peel_rule c.layer c.plane c.raw) (plane_size c.layer c.plane) c.output) c.output.bytes
