-- Demand 3, word by word: what a lower evidence figure keeps, "from the sums through fit to the later call's bytes and
-- count".
use Rattle.std.specs.Prelude.{◌≡◌, ◌≢◌, Bool, true, false, ◌||◌, ℕ, ◌≤◌, ◌<◌, ℤ, pos, neg_ℤ}
use Rattle.std.specs.Int.Signed.{le_z}
use Rattle.rules.specs.Answers.{Answer}
use Rattle.rules.specs.declared.Gain.{Gain}
use Rattle.rules.specs.declared.Offset.{Offset}
use Rattle.rules.specs.Forms.{Plane, Motion, Layer, Frames, Rule, cells, plane_size}
use Rattle.rules.specs.Float.{◌≼◌}
use Rattle.rules.specs.Calls.{FitCall}
use Rattle.rules.specs.Refusals.{fit_refusal}
use Rattle.rules.specs.Fit.{fit_leaves}
use Rattle.rules.specs.Reading.{as_left, cell, luma_gain, luma_offset, byte}
use Rattle.rules.specs.Peel.{peel_rule, peel_answer, peel_leaves}
use Rattle.rules.specs.Unpeel.{unpeel_rule, unpeel_answer, unpeel_leaves}
use Rattle.rules.specs.Render.{render_rule, render_answer, render_leaves}
use Rattle.calls.specs.Lent.{plane_of, peel_call, unpeel_call, render_call}

-- ---- the two fits

-- "Take any sums .. and fit them twice, strict off, the second evidence figure no higher than the first and all else
-- equal"; what their work slices and outputs hold before is left open, since no fit looks at it
pub record FitTwice (first second : FitCall) : Type 0 where
  pub strict : (first.strict ≡ false) × (second.strict ≡ false)
  pub evidence : (second.evidence ≼ first.evidence) ≡ true
  pub sums : second.parts ≡ first.parts
  pub size : second.size ≡ first.size
  pub ratio : second.ratio ≡ first.ratio
  pub limit : second.limit ≡ first.limit

-- the "layer as fit left it, read with that layer's own sizes, ratio and pitches"
abbrev pub layer_left : FitCall → Layer
layer_left c = as_left (fit_leaves c) c.size c.ratio

-- what a layer stores for luma pixel (x, y)
abbrev pub pair : Layer → (x y : ℕ) → Gain × Offset
pair l x y = (luma_gain l x y, luma_offset l x y)

-- "gain 4096, offset 0"
abbrev pub no_pair : Gain × Offset
no_pair = (record { 0 = pos 4096 }, record { 0 = pos 0 })

-- ---- the later call

-- "one call, peel or unpeel of luma or render of any plane": all that it is lent besides the layer
pub data Later : Type 0 where
  peel_luma : (output raw : Plane) → Later
  unpeel_luma : (output : Plane) → Frames → Later
  render_plane : (plane : ℕ) → (output : Plane) → Frames → Motion → (algo : ℤ) → Later

-- a call that was made: its rule, the width and height of its plane, its answer, and its output afterwards
pub record Run : Type 0 where
  pub rule : Rule
  pub size : ℕ × ℕ
  pub answer : Answer
  pub output : Plane

-- the call made on a layer
abbrev pub run : Later → Layer → Run
run (peel_luma output raw) l =
    let c = peel_call l 0 output raw in
    record { rule = peel_rule l 0 raw; size = plane_size l 0; answer = peel_answer c; output = plane_of (peel_leaves c) output.pitch }
run (unpeel_luma output frames) l =
    let c = unpeel_call l 0 output frames in
    record { rule = unpeel_rule l 0 frames; size = plane_size l 0; answer = unpeel_answer c; output = plane_of (unpeel_leaves c) output.pitch }
run (render_plane plane output frames motion algo) l =
    let c = render_call l plane output frames motion algo in
    record {
      rule = render_rule l plane frames motion algo;
      size = plane_size l plane;
      answer = render_answer c;
      output = plane_of (render_leaves c) output.pitch;
    }

-- no row of its table fits
abbrev pub Accepted : Run → Type 0
Accepted r = r.answer.number ≡ 0

-- pixel (x, y) lies in the plane, and the call's rule writes it
pub record Written (r : Run) (x y : ℕ) : Type 0 where
  pub across : x < r.size.0
  pub down : y < r.size.1
  pub writes : r.rule.writes x y ≡ true

-- "where the stored gain is at least 820 or at most -820"
abbrev pub is_large : Gain → Bool
is_large g = le_z (pos 820) g.0 || le_z g.0 (neg_ℤ (pos 820))

-- where the call leaves the same byte: "unpeel .. both times, and so does peel where" the gain is large; of render's
-- bytes nothing is said
abbrev pub promised : Later → Layer → (x y : ℕ) → Bool
promised (peel_luma output raw) l x y = is_large (luma_gain l x y)
promised (unpeel_luma output frames) l x y = true
promised (render_plane plane output frames motion algo) l x y = false

-- ---- the demand

-- what the second run of a call keeps of the first
pub record KeepsRun (first second : Run) (promise : (x y : ℕ) → Bool) : Type 0 where
  -- "every pixel written with the first layer is written with the second"
  pub written : (x y : ℕ) → Written first x y → Written second x y
  -- "and the second count is at least the first"
  pub count : first.answer.count ≤ second.answer.count
  -- "At each pixel written with the first", where it is promised, both leave "the same byte"
  pub bytes : (x y : ℕ) → Written first x y → promise x y ≡ true → byte second.output x y ≡ byte first.output x y

-- what the second layer keeps of the first
pub record Keeps (first second : Layer) : Type 0 where
  -- "every luma pixel that the first layer stores with other than gain 4096, offset 0 has the same pair in the second"
  pub pairs : (x y : ℕ) → x < first.size.0 → y < first.size.1 → pair first x y ≢ no_pair → pair second x y ≡ pair first x y
  -- "and no cell's distance is larger in the second"
  pub distances : (x y : ℕ) → x < cells first.size.0 → y < cells first.size.1 → le_z (cell second x y) (cell first x y) ≡ true
  -- "Now make one call .. once on each layer .. over equal other inputs and starting bytes, whatever these are. Where
  -- both calls are accepted"
  pub later : (call : Later) → Accepted (run call first) → Accepted (run call second) → KeepsRun (run call first) (run call second) (promised call first)

-- "Where both fits are accepted", the second layer keeps what the first has
abbrev pub DemandThree : Type 0
DemandThree = (first second : FitCall) → FitTwice first second → fit_refusal first ≡ 0 → fit_refusal second ≡ 0
    → Keeps (layer_left first) (layer_left second)
