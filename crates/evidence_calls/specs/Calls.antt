-- Demand 3 of the running code: the theorem of the definitions, said of the numbers that the exported calls answer and
-- of the slices that they leave. Each hypothesis is what the contract of an exported call says of its answer and of the
-- slices that it fills, or a test that its caller makes. The crate evidence_host has a function for each such call,
-- with the hypothesis for its contract.
use Rattle.std.specs.Prelude.{◌≡◌, true, List, ℕ, ◌≤◌}
use Rattle.rules.specs.Forms.{Plane, Fit, Layer, uncounted}
use Rattle.rules.specs.Calls.{FitCall}
use Rattle.rules.specs.Refusals.{fit_refusal}
use Rattle.rules.specs.Fit.{fit_leaves}
use Rattle.rules.specs.Reading.{as_left, byte}
use Rattle.rules.specs.Host.{count_in, number_in}
use Rattle.rules.specs.Peel.{peel_answer, peel_leaves}
use Rattle.rules.specs.Unpeel.{unpeel_answer, unpeel_leaves}
use Rattle.rules.specs.Render.{render_answer, render_leaves}
use Rattle.calls.specs.Lent.{plane_of, peel_call, unpeel_call, render_call}
use Rattle.told.specs.Told.{Told, ToldThree}
use Rattle.evidence_bytes.specs.Written.{through_bytes}
use Rattle.evidence.specs.Evidence.{FitTwice, Later, peel_luma, unpeel_luma, render_plane, run, Written, promised, Keeps}

-- ---- what the contracts say

-- of safeteal_fit: `left` are the three slices that it filled, `r` is its answer. What its contract says of the work
-- slices of a refused call is left out: nothing here needs it
abbrev pub FitTold : FitCall → (left : Fit) → (r : ℕ) → Type 0
FitTold c left r = ToldThree (uncounted (fit_refusal c)) (fit_leaves c).luma (fit_leaves c).chroma left.luma left.chroma.0 left.chroma.1 r

-- of the later call, safeteal_peel or safeteal_peel_numbers, safeteal_unpeel or safeteal_unpeel_numbers, or
-- safeteal_render, on a layer: `left` are the bytes of its output afterwards. Of safeteal_peel and safeteal_unpeel the
-- layer is that of the numbers which their bytes stand for (`numbers` of Host.antt)
abbrev pub LaterTold : Later → Layer → (left : List ℕ) → (r : ℕ) → Type 0
LaterTold (peel_luma output raw) l left r = (let c = peel_call l 0 output raw in Told (peel_answer c) (peel_leaves c) left r)
LaterTold (unpeel_luma output frames) l left r = (let c = unpeel_call l 0 output frames in Told (unpeel_answer c) (unpeel_leaves c) left r)
LaterTold (render_plane plane output frames motion algo) l left r =
    (let c = render_call l plane output frames motion algo in Told (render_answer c) (render_leaves c) left r)

-- the plane that a later call wrote, with the bytes that it left
abbrev pub plane_left : Later → (left : List ℕ) → Plane
plane_left (peel_luma output raw) left = plane_of left output.pitch
plane_left (unpeel_luma output frames) left = plane_of left output.pitch
plane_left (render_plane plane output frames motion algo) left = plane_of left output.pitch

-- ---- the demand

-- what the second of two calls keeps: the answers' counts, and the bytes that stand in the output slices
pub record KeepsCall (call : Later) (first second : Layer) (left left' : List ℕ) (r r' : ℕ) : Type 0 where
  pub written : (x y : ℕ) → Written (run call first) x y → Written (run call second) x y
  pub count : count_in r ≤ count_in r'
  pub bytes : (x y : ℕ) → Written (run call first) x y → promised call first x y ≡ true → byte (plane_left call left') x y ≡ byte (plane_left call left) x y

-- what the second layer keeps, read from the slices that fit left: the pairs and the distances, and then whatever later
-- call is made on both
pub record KeepsLeft (first second : Layer) : Type 0 where
  pub layers : Keeps first second
  pub later : (call : Later) (left left' : List ℕ) (r r' : ℕ) → LaterTold call first left r → LaterTold call second left' r' → number_in r ≡ 0 → number_in r' ≡ 0
      → KeepsCall call first second left left' r r'

-- two accepted calls of safeteal_fit, and the layers in the slices that they left
abbrev pub DemandThreeCalls : Type 0
DemandThreeCalls = (first second : FitCall) → FitTwice first second
    → (left left' : Fit) (r r' : ℕ) → FitTold first left r → FitTold second left' r' → number_in r ≡ 0 → number_in r' ≡ 0
    → KeepsLeft (as_left left first.size first.ratio) (as_left left' second.size second.ratio)

-- the same of layers that are lent as bytes: the slices that fit left are written as little-endian bytes, and the later
-- call, safeteal_peel or safeteal_unpeel, is on the numbers that these stand for
abbrev pub DemandThreeByteCalls : Type 0
DemandThreeByteCalls = (first second : FitCall) → FitTwice first second
    → (left left' : Fit) (r r' : ℕ) → FitTold first left r → FitTold second left' r' → number_in r ≡ 0 → number_in r' ≡ 0
    → KeepsLeft (as_left (through_bytes left) first.size first.ratio) (as_left (through_bytes left') second.size second.ratio)
