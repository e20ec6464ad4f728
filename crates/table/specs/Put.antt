-- A slice that is written from a place on, piece after piece: what stands before the next place.
use Rattle.std.specs.Prelude.{◌≡◌, List, ◌++◌, ℕ, ◌+◌, length, take}

-- a piece is put at a place; what stands behind it is not said
pub record Put {A : Type 0} (before : List A) (at : ℕ) (piece after : List A) : Type 0 where
  pub done : take (at + length piece) after ≡ take at before ++ piece
  pub long : length after ≡ length before
