-- The six terms by a pixel's steps.
use Rattle.std.specs.Prelude.{List, ℕ, Float}
use Rattle.rules.specs.declared.Steps.{Steps}
use Rattle.rules.specs.Forms.{Plane}
use Rattle.rules.specs.Float.{◌⊕◌, float}
use Rattle.rules.specs.Reading.{at, sample, held_to}
use Rattle.rules.specs.Stats.{six_terms}

-- a plane at a pixel moved by (dx, dy)
unfoldable pub moved_of : Plane → (x y : ℕ) → (dx dy : Float) → (size : ℕ × ℕ) → Float
moved_of raw x y dx dy size = sample raw (held_to (float x ⊕ dx) size.0) (held_to (float y ⊕ dy) size.1) size

-- the terms of a pair of planes at pixel (x, y), which moves by s
unfoldable pub terms_by : (first second : Plane) → Steps → (size : ℕ × ℕ) → (x y : ℕ) → List Float
terms_by first second s size x y =
    six_terms (moved_of first x y s.fx s.fy size) (moved_of second x y s.bx s.by size) (at second x y) (at first x y)
