-- "Render": the layer laid on a frame made between two others.
use Rattle.std.specs.Prelude.{◌&&◌, ◌||◌, ◌∷◌}
use Rattle.rules.specs.Words.{Bool, true, false, cond, not, List, [], ℕ, ℤ, Float, Answer, Model, Steps, Moved, Scene, Lifted, Raw}
use Prim.Native.Nat as Nat
use Rattle.rules.specs.Literals.{0·0001, 0·01, 0·2, 1·0, 2·5, 16·0}
use Rattle.rules.specs.Float.{◌⊕◌, ◌⊖◌, ◌⊗◌, ◌⊘◌, ◌≺◌, ◌≼◌, float, signed, abs, max, mix, median, pixel}
use Rattle.rules.specs.Forms.{Plane, Motion, Layer, Frames, Rule, plane_ratio, plane_size, apart, is_number, painted, counted, answer, leaves}
use Rattle.rules.specs.Calls.{RenderCall}
use Rattle.rules.specs.Refusals.{render_refusal}
use Rattle.rules.specs.Reading.{gap, texel, model_at, at, sample, held_to}
use Rattle.rules.specs.Scene.{value, is_lifted, scene}
use Rattle.rules.specs.Peel.{layered}
use Rattle.rules.specs.Motion.{steps}

-- ---- how far the layer is carried

-- the largest distance from 1024 in a field, and n
unfoldable pub farthest : List ℕ → (n : ℕ) → ℕ
farthest [] n = n
farthest (v ∷ field) n = farthest field (Nat.max n (apart v 1024))

-- "`far` reads whole motion fields", in luma pixels
unfoldable pub far : Motion → Float
far m =
    float (farthest m.backward.1 (farthest m.backward.0 (farthest m.forward.1 (farthest m.forward.0 0)))) ⊘ signed m.pel

-- the steps as far as the time takes them
unfoldable pub timed : (time : Float) → Steps → Steps
timed time s =
    let rest = 1·0 ⊖ time in
    record { fx = s.fx ⊗ time; fy = s.fy ⊗ time; bx = s.bx ⊗ rest; by = s.by ⊗ rest }

-- the largest of a pixel's own steps, in luma pixels
unfoldable pub reach : (ratio : ℕ) → Steps → Float
reach ratio s = max (max (max (abs s.fx) (abs s.fy)) (abs s.bx)) (abs s.by) ⊗ float ratio

-- "max(16, far+1)", and the same of reach
abbrev pub margin : Float → Float
margin far = max (far ⊕ 1·0) 16·0

-- "Skips a pixel whose gap exceeds max(16, far+1), or its own max(16, reach+1)."
unfoldable pub rendered : (gap far reach : Float) → Bool
rendered gap far reach = not (margin far ≺ gap) && not (margin reach ≺ gap)

-- ---- what the two frames show

-- whether a model is more than a trace: the Rust's `on`
abbrev pub is_on : Model → Bool
is_on m = (0·0001 ≼ abs (m.gain ⊖ 1·0)) || (0·01 ≼ abs m.offset)

-- what a frame shows at a pixel moved by (dx, dy)
unfoldable pub moved : Layer → (plane : ℕ) → (raw : Plane) → (x y : ℕ) → (dx dy : Float) → Moved
moved l plane raw x y dx dy =
    let size = plane_size l plane in
    let u = held_to (float x ⊕ dx) size.0 in
    let v = held_to (float y ⊕ dy) size.1 in
    record { scene = scene l plane raw u v true; on = is_on (model_at l plane u v); raw = sample raw u v size }

-- one side's scene: its raw sample instead, where the layer is on at this side alone, both are lifted, and the raw
-- sample is nearer to the other side's than the lifted one is, which is `gap` away from it
unfoldable pub exchanged : (mine other : Moved) → (gap : Float) → Scene
exchanged mine other gap =
    cond (mine.on && not other.on && is_lifted mine.scene && is_lifted other.scene && (abs (mine.raw ⊖ value other.scene) ≺ gap))
    (Lifted mine.raw)
    mine.scene

-- "`algo` 1 prefers the second, 2 the first, others the median"; a lifted side wins over a raw one, and two raw ones
-- give the base
unfoldable pub chosen : (first second : Scene) → (base : Float) → (algo : ℤ) → Float
chosen (Lifted f) (Lifted b) base algo = cond (is_number algo 1) b (cond (is_number algo 2) f (median f b base))
chosen (Lifted f) (Raw b) base algo = f
chosen (Raw f) (Lifted b) base algo = b
chosen (Raw f) (Raw b) base algo = base

-- the two sides, exchanged and chosen from
unfoldable pub between : (first second : Moved) → (base : Float) → (algo : ℤ) → Float
between f b base algo =
    let gap = abs (value f.scene ⊖ value b.scene) in
    chosen (exchanged f b gap) (exchanged b f gap) base algo

-- both frames at the pixel itself, without filling, mixed by time
unfoldable pub base : Layer → (plane : ℕ) → Frames → (x y : ℕ) → Float
base l plane f x y =
    mix (value (scene l plane f.first (float x) (float y) false)) (value (scene l plane f.second (float x) (float y) false)) f.time

-- ---- the pixel

-- own bytes mixed by time where |gain| < 0.2, or on the layer where they differ by at most 2.5; else gain times the
-- scene, plus offset
unfoldable pub composed : Model → (layered : Bool) → (first second time scene : Float) → Float
composed m layered first second time scene =
    cond ((abs m.gain ≺ 0·2) || (layered && (abs (first ⊖ second) ≼ 2·5))) (mix first second time) (m.gain ⊗ scene ⊕ m.offset)

-- a pixel's own steps
unfoldable pub own_steps : Layer → (plane : ℕ) → Frames → Motion → (x y : ℕ) → Steps
own_steps l plane f m x y = timed f.time (steps m (plane_ratio l plane) x y)

-- the scene chosen for a pixel
unfoldable pub seen : Layer → (plane : ℕ) → Frames → Motion → (algo : ℤ) → (x y : ℕ) → Float
seen l plane f m algo x y =
    let s = own_steps l plane f m x y in
    between
    (moved l plane f.first x y s.fx s.fy)
    (moved l plane f.second x y s.bx s.by)
    (base l plane f x y)
    algo

-- the rule
unfoldable pub render_rule : Layer → (plane : ℕ) → Frames → Motion → (algo : ℤ) → Rule
render_rule l plane f m algo =
    record {
      writes = λ x y. rendered (gap l plane x y) (far m) (reach (plane_ratio l plane) (own_steps l plane f m x y));
      byte = λ x y old.
          pixel (composed (texel l plane x y) (layered l plane x y) (at f.first x y) (at f.second x y) f.time (seen l plane f m algo x y));
    }

-- its answer
abbrev pub render_answer : RenderCall → Answer
render_answer c =
    answer (render_refusal c) (counted (render_rule c.layer c.plane c.frames c.motion c.algo) (plane_size c.layer c.plane))

-- and what it leaves in the output
abbrev pub render_leaves : RenderCall → List ℕ
render_leaves c =
    leaves (render_refusal c)
    (painted (render_rule c.layer c.plane c.frames c.motion c.algo) (plane_size c.layer c.plane) c.output)
    c.output.bytes
