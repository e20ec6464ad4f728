-- What a work puts in a pixel, and its rule.
use Rattle.std.specs.Prelude.{List, ℕ, true}
use Rattle.calls.specs.Lent.{plane_of}
use Rattle.rules.specs.Float.{float, pixel}
use Rattle.rules.specs.Forms.{Rule}
use Rattle.rules.specs.Peel.{layered}
use Rattle.rules.specs.Reading.{texel}
use Rattle.rules.specs.Scene.{value, scene}
use Rattle.layer_lent.specs.declared.Shape.{Shape}
use Rattle.layer_lent.specs.Lent.{lay, Held}
use Rattle.lift_straight.specs.Laid.{byte_by}

-- what a pixel becomes, by what stood there
abbrev pub Bytes : Type 0
Bytes = (x y old : ℕ) → ℕ

-- by peel, and by unpeel
abbrev pub peel_bytes : Shape → Held → (raw : List ℕ) → (pitch : ℕ) → Bytes
peel_bytes s held raw pitch x y old =
    pixel (value (scene (lay s held) s.plane (plane_of raw pitch) (float x) (float y) true))

abbrev pub unpeel_bytes : Shape → Held → (first second : List ℕ) → Bytes
unpeel_bytes s held first second x y old = byte_by s first second (texel (lay s held) s.plane x y) x y old

-- the pixels that the layer shows in get these bytes
abbrev pub rule_of : Bytes → Shape → Held → Rule
rule_of byte s held = record { writes = layered (lay s held) s.plane; byte = byte }
