-- The near and the far pixels of a row, and the stretches of near ones.
use Rattle.std.specs.Prelude.{◌≡◌, Bool, true, false, not, Option, MatchOption, ℕ, ◌+◌, ◌-◌, ◌*◌, ◌/◌, ◌≤◌, ◌<◌, min}
use Rattle.rules.specs.Forms.{Layer}
use Rattle.rules.specs.Literals.{0·0, 8·0}
use Rattle.rules.specs.Float.{◌⊖◌, ◌⊗◌, ◌≼◌, signed}
use Rattle.rules.specs.Reading.{cell, gap}
use Rattle.layer_lent.specs.declared.Plan.{Plan}
use Rattle.layer_lent.specs.Lent.{lay, Held}

-- a part of a row of the plane
pub record Part (p : Plan) (y from to : ℕ) : Type 0 where
  pub above : y < p.down
  pub ahead : from ≤ to
  pub within : to ≤ p.across

-- pixels of a row whose gap is at most 0
abbrev pub Near : Layer → (plane y from to : ℕ) → Type 0
Near l plane y from to = (k : ℕ) → from ≤ k → k < to → (gap l plane k y ≼ 0·0) ≡ true

-- and pixels whose gap is more
abbrev pub Far : Layer → (plane y from to : ℕ) → Type 0
Far l plane y from to = (k : ℕ) → from ≤ k → k < to → (gap l plane k y ≼ 0·0) ≡ false

-- a cell whose pixels are near
abbrev pub near_cell : Layer → (x y : ℕ) → Bool
near_cell l x y = signed (cell l x y) ⊗ 8·0 ⊖ 8·0 ≼ 0·0

-- the cells of a row from a column to another are all near, or all far
abbrev pub Cells : Layer → (row : ℕ) → (near : Bool) → (from to : ℕ) → Type 0
Cells l row near from to = (k : ℕ) → from ≤ k → k < to → near_cell l k row ≡ near

-- this one is the first that is near, or far, from a column on
pub record FirstAt (l : Layer) (row : ℕ) (near : Bool) (from to k : ℕ) : Type 0 where
  pub ahead : from ≤ k
  pub within : k < to
  pub is : near_cell l k row ≡ near
  pub before : Cells l row (not near) from k

-- or none is
abbrev pub First : Layer → (row : ℕ) → (near : Bool) → (from to : ℕ) → Option ℕ → Type 0
First l row near from to r = MatchOption r (Cells l row (not near) from to) (FirstAt l row near from to)

-- how many columns of cells a plane has, and where one begins, or the plane ends
abbrev pub cells_of : Plan → ℕ
cells_of p = (p.across - 1) / p.side + 1

abbrev pub column : Plan → (cell : ℕ) → ℕ
column p cell = min (cell * p.side) p.across

-- the next stretch, from this column of cells on: far pixels are before it, and it ends where the next is looked for, at
-- the end of the row or at a far pixel
pub record Goes (p : Plan) (held : Held) (y cell from to next : ℕ) : Type 0 where
  pub ahead : column p cell ≤ from
  pub some : from < to
  pub far : Far (lay p.shape held) p.shape.plane y (column p cell) from
  pub ends : to ≡ column p next
  pub stops : to < p.across → (gap (lay p.shape held) p.shape.plane to y ≼ 0·0) ≡ false
