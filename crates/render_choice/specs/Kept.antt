-- The tests that render makes before it looks at the frames.
use Rattle.std.specs.Prelude.{Bool, not, ◌&&◌, ◌||◌, Float}
use Rattle.rules.specs.declared.Model.{Model}
use Rattle.rules.specs.Literals.{0·2, 2·5}
use Rattle.rules.specs.Float.{◌⊖◌, ◌≺◌, ◌≼◌, abs}
use Rattle.rules.specs.Render.{margin}

-- the gap is within the margin of a reach: `rendered` asks it of `far` and of a pixel's own
abbrev pub is_within : (gap reach : Float) → Bool
is_within gap reach = not (margin reach ≺ gap)

-- a pixel's own bytes are mixed, as `composed` has it, and no frame is looked at elsewhere
abbrev pub is_kept : Model → (layered : Bool) → (first second : Float) → Bool
is_kept m layered first second = (abs m.gain ≺ 0·2) || (layered && (abs (first ⊖ second) ≼ 2·5))
