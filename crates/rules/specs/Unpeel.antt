-- "Unpeel": the layer laid back on frames that were made without it.
use Rattle.std.specs.Prelude.{◌||◌}
use Rattle.rules.specs.Words.{cond, List, ℕ, Float, Answer, Model}
use Rattle.rules.specs.Literals.{0·2, 2·5}
use Rattle.rules.specs.Float.{◌⊕◌, ◌⊖◌, ◌⊗◌, ◌≺◌, ◌≼◌, float, abs, mix, median, pixel}
use Rattle.rules.specs.Forms.{Layer, Frames, Rule, plane_size, painted, counted, answer, leaves}
use Rattle.rules.specs.Calls.{UnpeelCall}
use Rattle.rules.specs.Refusals.{unpeel_refusal}
use Rattle.rules.specs.Reading.{texel, at}
use Rattle.rules.specs.Scene.{lift}
use Rattle.rules.specs.Peel.{layered}

-- "Own bytes mixed by time if |gain| < 0.2 or they differ by at most 2.5; else gain times the median of old byte and
-- both lifted values, plus offset."
unfoldable pub relaid : Model → (first second time old : Float) → Float
relaid m first second time old =
    cond ((abs m.gain ≺ 0·2) || (abs (first ⊖ second) ≼ 2·5))
    (mix first second time)
    (m.gain ⊗ median old (lift first m) (lift second m) ⊕ m.offset)

-- "Same pixels" as peel
unfoldable pub unpeel_rule : Layer → (plane : ℕ) → Frames → Rule
unpeel_rule l plane f =
    record {
      writes = layered l plane;
      byte = λ x y old. pixel (relaid (texel l plane x y) (at f.first x y) (at f.second x y) f.time (float old));
    }

-- its answer
abbrev pub unpeel_answer : UnpeelCall → Answer
unpeel_answer c = answer (unpeel_refusal c) (counted (unpeel_rule c.layer c.plane c.frames) (plane_size c.layer c.plane))

-- and what it leaves in the output
abbrev pub unpeel_leaves : UnpeelCall → List ℕ
unpeel_leaves c =
    leaves (unpeel_refusal c) (painted (unpeel_rule c.layer c.plane c.frames) (plane_size c.layer c.plane) c.output) c.output.bytes
