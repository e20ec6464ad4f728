-- What the readers of cells ask and give.
use Rattle.std.specs.Prelude.{◌≡◌, ℕ, ◌/◌, ◌≤◌, ◌<◌}
use Rattle.layer_lent.specs.declared.Plan.{Plan}

-- from k on to r, all lie in one cell
pub record CellEnd (k side size r : ℕ) : Type 0 where
  pub ahead : k < r
  pub within : r ≤ size
  pub same : (j : ℕ) → k ≤ j → j < r → j / side ≡ k / side

-- a column and a row of cells
pub record CellInside (p : Plan) (x y : ℕ) : Type 0 where
  pub left : x < p.shape.chroma_pitch
  pub above : y < p.rows
