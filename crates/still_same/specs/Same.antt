-- Whether a pixel is the same, by the columns and rows that are read, and what the reads ask.
use Rattle.std.specs.Prelude.{Bool, cond, List, ℕ, ◌+◌, Float}
use Rattle.rules.specs.Forms.{Plane, apart}
use Rattle.rules.specs.Literals.{4·0, 255·0}
use Rattle.rules.specs.Float.{◌⊖◌, ◌⊘◌, float}
use Rattle.rules.specs.Calls.{Settings}
use Rattle.rules.specs.Reading.{byte}
use Rattle.rules.specs.Still.{is_same, same_at}
use Rattle.calls.specs.Lent.{plane_of, settings_of}
use Rattle.still_same.specs.declared.Settings.{Settings as Given}

-- mask's settings, as the rules' record
abbrev pub settled : Given → Settings
settled s = settings_of s.limit s.edge s.tolerance

-- how far a byte stands out from the mean of four
unfoldable pub detail_by : (here right below corner : ℕ) → Float
detail_by here right below corner = (float here ⊖ float (here + right + below + corner) ⊘ 4·0) ⊘ 255·0

-- that of a pixel, with the columns x and right, and the rows y and below
abbrev pub detail_at : Plane → (x right y below : ℕ) → Float
detail_at p x right y below = detail_by (byte p x y) (byte p right y) (byte p x below) (byte p right below)

-- `same_at`, with the columns x and right, and the rows y and below
unfoldable pub same_by : (first second : Plane) → Settings → (x right y below : ℕ) → Bool
same_by first second s x right y below =
    is_same (float (apart (byte first x y) (byte second x y)) ⊘ 255·0) (detail_at first x right y below) (detail_at second x right y below) s

-- 1 where a pixel is the same
abbrev pub same_bit : (first second : Plane) → (size : ℕ × ℕ) → Settings → (x y : ℕ) → ℕ
same_bit first second size s x y = cond (same_at first second size s x y) 1 0

-- of two frames as they are lent
abbrev pub same_plane : (first second : List ℕ) → (pitch width height : ℕ) → Given → (x y : ℕ) → ℕ
same_plane first second pitch width height s = same_bit (plane_of first pitch) (plane_of second pitch) (width, height) (settled s)
