-- The motion at a pixel: the Rust's `taps` and `steps`.
use Rattle.std.specs.Prelude.{◌+◌, ◌*◌}
use Rattle.rules.specs.Words.{List, ℕ, get_or, Float, Taps, Steps}
use Rattle.rules.specs.Literals.{0·5, 1·0, 1024·0}
use Rattle.rules.specs.Float.{◌⊖◌, ◌⊗◌, ◌⊘◌, float, signed, cut, mix}
use Rattle.rules.specs.Forms.{Motion}
use Rattle.rules.specs.Reading.{after, held_to}

-- the Rust's `taps`: two entries of `size` around a place, which is held to the entries' middles
unfoldable pub taps : (place : Float) → (size : ℕ) → Taps
taps place size =
    let p = held_to (place ⊖ 0·5) size in
    record { first = cut p; second = after (cut p) size; share = p ⊖ float (cut p) }

-- "A chroma row or column is scaled by ratio before `taps`."
unfoldable pub row_taps : Motion → (ratio y : ℕ) → Taps
row_taps m ratio y = taps ((float (y * ratio) ⊖ signed m.origin.1) ⊘ signed m.block.1) m.grid.1

unfoldable pub column_taps : Motion → (ratio x : ℕ) → Taps
column_taps m ratio x = taps ((float x ⊗ float ratio ⊖ signed m.origin.0) ⊘ signed m.block.0) m.grid.0

-- a column of a field, between the rows of `down`, in pixels of the plane; 1024 stands for no motion
unfoldable pub column : Motion → (ratio : ℕ) → (field : List ℕ) → (down : Taps) → (x : ℕ) → Float
column m ratio field down x =
    let entry : ℕ → Float = λ row. float (get_or field (row * m.grid.0 + x) 0) in
    (mix (entry down.first) (entry down.second) down.share ⊖ 1024·0) ⊗ (1·0 ⊘ (float ratio ⊗ signed m.pel))

-- a field at a pixel: "two columns read per pixel"
unfoldable pub step : Motion → (ratio : ℕ) → (down across : Taps) → (field : List ℕ) → Float
step m ratio down across field =
    mix (column m ratio field down across.first) (column m ratio field down across.second) across.share

-- how far pixel (x, y) lies off in the first frame and in the second: the first takes the backward fields
unfoldable pub steps : Motion → (ratio x y : ℕ) → Steps
steps m ratio x y =
    let s = step m ratio (row_taps m ratio y) (column_taps m ratio x) in
    record { fx = s m.backward.0; fy = s m.backward.1; bx = s m.forward.0; by = s m.forward.1 }
