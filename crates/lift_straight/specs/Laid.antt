-- A pixel that the layer is laid on again.
use Rattle.std.specs.Prelude.{List, ℕ}
use Rattle.calls.specs.Lent.{plane_of}
use Rattle.rules.specs.declared.Model.{Model}
use Rattle.rules.specs.Float.{float, pixel}
use Rattle.rules.specs.Reading.{at}
use Rattle.rules.specs.Unpeel.{relaid}
use Rattle.layer_lent.specs.declared.Shape.{Shape}

-- its byte, by its model and the bytes of the frames and of the output
abbrev pub byte_by : Shape → (first second : List ℕ) → Model → (x y old : ℕ) → ℕ
byte_by s first second m x y old =
    pixel (relaid m (at (plane_of first s.first_pitch) x y) (at (plane_of second s.second_pitch) x y) s.time (float old))
