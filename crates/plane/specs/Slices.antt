-- Slices that are lent in an array.
use Rattle.std.specs.Prelude.{List, [], ℕ, get_or}
use Rattle.std.specs.Borrow.{Bor}

abbrev pub Slices : Type 0 → Type 0
Slices A = List (Bor (List A))

-- slice k
abbrev pub at : {A : Type 0} → Slices A → (k : ℕ) → Bor (List A)
at slices k = get_or slices k (record { ref_ptr = (0, 0); now = [] })

-- and what it holds
abbrev pub slice : {A : Type 0} → Slices A → (k : ℕ) → List A
slice slices k = (at slices k).now
