-- What the lookup asks.
use Rattle.std.specs.Prelude.{◌≡◌, ℕ}

-- a cell's side: 8, 4 or 2
abbrev pub IsSide : ℕ → Type 0
IsSide side = (side ≡ 8 → ⊥) → (side ≡ 4 → ⊥) → side ≡ 2
