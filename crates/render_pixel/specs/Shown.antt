-- A pixel that moves by given steps: the byte that is put there.
use Rattle.std.specs.Prelude.{ℕ, ℤ, Float}
use Rattle.rules.specs.declared.Model.{Model}
use Rattle.rules.specs.declared.Steps.{Steps}
use Rattle.rules.specs.Forms.{Layer, Frames}
use Rattle.rules.specs.Float.{mix, pixel}
use Rattle.rules.specs.Reading.{texel, at}
use Rattle.rules.specs.Scene.{value, lifted}
use Rattle.rules.specs.Peel.{layered}
use Rattle.rules.specs.Render.{moved, between, base, composed}

-- both bytes of a pixel, lifted by its model and mixed
abbrev pub base_by : Model → (first second time : Float) → Float
base_by m first second time = mix (value (lifted first m)) (value (lifted second m)) time

-- the scene chosen for a pixel
unfoldable pub seen_by : Layer → (plane : ℕ) → Frames → Steps → (base : Float) → (algo : ℤ) → (x y : ℕ) → Float
seen_by l plane f s base algo x y = between (moved l plane f.first x y s.fx s.fy) (moved l plane f.second x y s.bx s.by) base algo

-- and its byte
unfoldable pub byte_by : Layer → (plane : ℕ) → Frames → Steps → (algo : ℤ) → (x y : ℕ) → ℕ
byte_by l plane f s algo x y =
    pixel (composed (texel l plane x y) (layered l plane x y) (at f.first x y) (at f.second x y) f.time (seen_by l plane f s (base l plane f x y) algo x y))
