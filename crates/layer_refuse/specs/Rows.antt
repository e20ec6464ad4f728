-- A call over a layer by its numbers and slices; what is measured of the byte planes over it.
use Rattle.std.specs.Prelude.{List, ℕ, length}
use Rattle.rules.specs.Forms.{Plane}
use Rattle.rules.specs.Calls.{PeelCall, UnpeelCall}
use Rattle.calls.specs.Lent.{peel_call, unpeel_call}
use Rattle.layer_lent.specs.declared.Shape.{Shape}
use Rattle.layer_lent.specs.Lent.{Bytes, lay, output_by, first_by, frames_by, Held}
use Rattle.layer_refuse.specs.declared.Over.{Over}

-- a call of peel, which takes the first frame, and of unpeel
abbrev pub peel_by : Shape → Held → (output : List ℕ) → (frames : Bytes) → PeelCall
peel_by s held output frames = peel_call (lay s held) s.plane (output_by s output) (first_by s frames)

abbrev pub unpeel_by : Shape → Held → (output : List ℕ) → (frames : Bytes) → UnpeelCall
unpeel_by s held output frames = unpeel_call (lay s held) s.plane (output_by s output) (frames_by s frames)

-- what is measured of a byte plane
abbrev pub measured : Plane → Over
measured p = record { length = length p.bytes; pitch = p.pitch }
