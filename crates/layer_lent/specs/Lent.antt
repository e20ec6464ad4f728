-- A layer that is lent in one of two forms, as the rules' layer; and what its readers ask.
use Rattle.std.specs.Prelude.{cond, ◌≡◌, List, ℕ, ◌*◌, ◌/◌, ◌≤◌, ◌<◌, ℤ, length, eqb}
use Rattle.rules.specs.Forms.{Layer, Plane, Frames}
use Rattle.calls.specs.Lent.{plane_of, frames_of, layer_of}
use Rattle.plane.specs.Slices.{Slices, slice}
use Rattle.layer_lookup.specs.Side.{IsSide}
use Rattle.layer_lent.specs.declared.Shape.{Shape}
use Rattle.layer_lent.specs.declared.Plan.{Plan}

-- the layer of these numbers
abbrev pub holding : Shape → (luma first second : List ℤ) → Layer
holding s luma first second =
    layer_of luma first second s.luma_pitch s.chroma_pitch s.width s.height s.ratio

-- the numbers of the three slices: luma's, and those of planes 1 and 2
abbrev pub Held : Type 0
Held = ℕ → List ℤ

-- the layer of these slices
abbrev pub lay : Shape → Held → Layer
lay s held = holding s (held 0) (held 1) (held 2)

-- slices that are lent as one array: of numbers; of bytes, as the frames
abbrev pub Numbers : Type 0
Numbers = Slices ℤ

abbrev pub Bytes : Type 0
Bytes = Slices ℕ

-- the output
abbrev pub output_by : Shape → List ℕ → Plane
output_by s output = plane_of output s.output_pitch

-- a plane of each frame
abbrev pub first_by : Shape → Bytes → Plane
first_by s frames = plane_of (slice frames 0) s.first_pitch

abbrev pub second_by : Shape → Bytes → Plane
second_by s frames = plane_of (slice frames 1) s.second_pitch

abbrev pub frames_by : Shape → Bytes → Frames
frames_by s frames = frames_of (first_by s frames) (second_by s frames) s.time

-- a shape over frames with these pitches
abbrev pub framed : Shape → (first second : ℕ) → Shape
framed s first second =
    record {
      luma_pitch = s.luma_pitch;
      chroma_pitch = s.chroma_pitch;
      width = s.width;
      height = s.height;
      ratio = s.ratio;
      plane = s.plane;
      output_pitch = s.output_pitch;
      first_pitch = first;
      second_pitch = second;
      time = s.time;
    }

-- the ratio of the plane that is worked on
abbrev pub ratio_of : Shape → ℕ
ratio_of s = cond (eqb s.plane 0) 1 s.ratio

-- what follows from a shape
abbrev pub plan_of : Shape → Plan
plan_of s =
    record {
      shape = s;
      span = ratio_of s;
      across = s.width / ratio_of s;
      down = s.height / ratio_of s;
      rows = s.height / s.ratio;
      side = 8 / ratio_of s;
    }

-- numbers that are not refused
pub record Formed (s : Shape) : Type 0 where
  pub wide : (1 ≤ s.width) × (s.width ≤ 4096)
  pub tall : (1 ≤ s.height) × (s.height ≤ 4096)
  pub ratio : (1 ≤ s.ratio) × (s.ratio ≤ 4)
  pub power : s.ratio ≡ 3 → ⊥
  pub whole_across : s.width / s.ratio * s.ratio ≡ s.width
  pub whole_down : s.height / s.ratio * s.ratio ≡ s.height
  pub luma_pitch : (s.width ≤ s.luma_pitch) × (s.luma_pitch ≤ 65536)
  pub chroma_pitch : (s.width / s.ratio ≤ s.chroma_pitch) × (s.chroma_pitch ≤ 65536)

-- and what follows from them
pub record Planned (p : Plan) : Type 0 where
  pub formed : Formed p.shape
  pub is : p ≡ plan_of p.shape
  pub span : (1 ≤ p.span) × (p.span ≤ 4)
  pub power : p.span ≡ 3 → ⊥
  pub wide : (1 ≤ p.across) × (p.across ≤ 4096)
  pub tall : (1 ≤ p.down) × (p.down ≤ 4096)
  pub whole_across : p.across * p.span ≡ p.shape.width
  pub whole_down : p.down * p.span ≡ p.shape.height
  pub low : p.rows ≤ p.shape.height
  pub cell : IsSide p.side
  pub small : (2 ≤ p.side) × (p.side ≤ 8)

-- slices that are not refused
abbrev pub LumaLong : Plan → List ℤ → Type 0
LumaLong p l = 2 * (p.shape.luma_pitch * p.shape.height) ≤ length l

abbrev pub ChromaLong : Plan → List ℤ → Type 0
ChromaLong p l = 2 * (p.shape.chroma_pitch * p.rows) ≤ length l

pub record Sound (p : Plan) (held : Held) : Type 0 where
  pub planned : Planned p
  pub luma_long : LumaLong p (held 0)
  pub first_long : ChromaLong p (held 1)
  pub second_long : ChromaLong p (held 2)

-- a pixel of the plane
pub record Inside (p : Plan) (x y : ℕ) : Type 0 where
  pub left : x < p.across
  pub above : y < p.down
