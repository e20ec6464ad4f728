-- A list whose first n entries are stored, one after the other.
use Rattle.std.specs.Prelude.{List, ℕ, set}
use Rattle.rules.specs.Forms.{turns}

unfoldable pub filled : {A : Type 0} → (n : ℕ) → (ℕ → A) → (old : List A) → List A
filled n f old = turns (λ k l. set l k (f k)) n old
