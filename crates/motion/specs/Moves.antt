-- What the readers of motion ask and give.
use Rattle.std.specs.Prelude.{◌≡◌, List, [], ℕ, ◌+◌, ◌*◌, ◌≤◌, ◌<◌, nat_abs, length, get_or, Float}
use Rattle.rules.specs.declared.Taps.{Taps}
use Rattle.rules.specs.declared.Steps.{Steps}
use Rattle.rules.specs.Forms.{Motion, area}
use Rattle.rules.specs.Literals.{0·5, 1024·0}
use Rattle.rules.specs.Float.{◌⊖◌, ◌⊗◌, ◌⊘◌, float, signed, mix}
use Rattle.rules.specs.Reading.{after}
use Rattle.rules.specs.Motion.{column_taps, column, step}
use Rattle.calls.specs.Lent.{motion_by}
use Rattle.plane.specs.Slices.{Slices, slice}
use Rattle.motion.specs.declared.Carried.{Carried}
use Rattle.motion.specs.declared.Grid.{Grid}

-- motion as a function is lent it
abbrev pub motion_of : (fields : Slices ℕ) → Grid → Motion
motion_of fields g =
    motion_by (slice fields 0) (slice fields 1) (slice fields 2) (slice fields 3) g.width g.height g.block_width g.block_height g.origin_x g.origin_y g.pel

-- the same grid, whatever its fields are
abbrev pub laid_out : Grid → Motion
laid_out g = motion_of [] g

-- a pixel column's place in the grid, before it is held to the entries' middles
abbrev pub place_of : Motion → (ratio x : ℕ) → Float
place_of m ratio x = (float x ⊗ float ratio ⊖ signed m.origin.0) ⊘ signed m.block.0 ⊖ 0·5

-- a field of a grid
abbrev pub Covers : (grid : ℕ × ℕ) → (field : List ℕ) → Type 0
Covers grid field = area grid ≤ length field

-- motion numbers within their limits, for a plane of this ratio
pub record Laid (g : Grid) (ratio : ℕ) : Type 0 where
  pub wide : (1 ≤ g.width) × (g.width ≤ 4096)
  pub tall : (1 ≤ g.height) × (g.height ≤ 4096)
  pub blocks : (nat_abs g.block_width ≤ 4096) × (nat_abs g.block_height ≤ 4096)
  pub origins : (nat_abs g.origin_x ≤ 4096) × (nat_abs g.origin_y ≤ 4096)
  pub parts : nat_abs g.pel ≤ 4096
  pub few : ratio ≤ 4

-- and fields as large as the grid
pub record Moves (fields : Slices ℕ) (g : Grid) (ratio : ℕ) : Type 0 where
  pub laid : Laid g ratio
  pub forward : Covers (g.width, g.height) (slice fields 0) × Covers (g.width, g.height) (slice fields 1)
  pub backward : Covers (g.width, g.height) (slice fields 2) × Covers (g.width, g.height) (slice fields 3)

-- two rows of a grid
pub record Rows (height : ℕ) (down : Taps) : Type 0 where
  pub first_in : down.first < height
  pub second_in : down.second < height

-- a number of a field
abbrev pub entry_of : (width : ℕ) → (field : List ℕ) → (x y : ℕ) → Float
entry_of width field x y = float (get_or field (y * width + x) 0)

-- a field's column between two rows, in steps of this scale
unfoldable pub column_at : (width : ℕ) → (scale : Float) → (field : List ℕ) → (down : Taps) → (x : ℕ) → Float
column_at width scale field down x =
    (mix (entry_of width field x down.first) (entry_of width field x down.second) down.share ⊖ 1024·0) ⊗ scale

-- the four fields' columns
unfoldable pub columns_of : Motion → (ratio : ℕ) → (down : Taps) → (x : ℕ) → Steps
columns_of m ratio down x =
    record {
      fx = column m ratio m.backward.0 down x;
      fy = column m ratio m.backward.1 down x;
      bx = column m ratio m.forward.0 down x;
      by = column m ratio m.forward.1 down x;
    }

-- what is carried holds the columns of its first entry and of the one after it
pub record Holds (m : Motion) (ratio : ℕ) (down : Taps) (c : Carried) : Type 0 where
  pub left : c.left ≡ columns_of m ratio down c.first
  pub right : c.right ≡ columns_of m ratio down (after c.first m.grid.0)

-- and it is for a pixel between these two
pub record Carries (m : Motion) (ratio : ℕ) (down across : Taps) (c : Carried) : Type 0 where
  pub first : c.first ≡ across.first
  pub share : c.share ≡ across.share
  pub holds : Holds m ratio down c

-- two columns mixed
abbrev pub mixed_steps : Carried → Steps
mixed_steps c =
    record {
      fx = mix c.left.fx c.right.fx c.share;
      fy = mix c.left.fy c.right.fy c.share;
      bx = mix c.left.bx c.right.bx c.share;
      by = mix c.left.by c.right.by c.share;
    }

-- the steps of pixel column x between the rows of `down`
unfoldable pub steps_by : Motion → (ratio : ℕ) → (down : Taps) → (x : ℕ) → Steps
steps_by m ratio down x =
    let s = step m ratio down (column_taps m ratio x) in
    record { fx = s m.backward.0; fy = s m.backward.1; bx = s m.forward.0; by = s m.forward.1 }
