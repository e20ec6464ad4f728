-- How far a table is filled: what is read at a place is what f says of it.
use Rattle.std.specs.Prelude.{◌≡◌, List, ℕ, ◌+◌, ◌≤◌, ◌<◌, ℤ, pos, get_or}

-- from place lo on, below hi
abbrev pub Filled : {A : Type 0} → (f read : ℕ → A) → (lo hi : ℕ) → Type 0
Filled f read lo hi = (k : ℕ) → lo ≤ k → k < hi → read k ≡ f k

-- entry k of a slice of numbers
abbrev pub entry_of : List ℤ → ℕ → ℤ
entry_of l k = get_or l k (pos 0)

-- both halves of a slice are filled from lo on, below hi, and what f said of an entry before is so still
pub record Paired (f : ℕ → ℤ) (half lo hi : ℕ) (before after : List ℤ) : Type 0 where
  pub first : Filled f (entry_of after) lo hi
  pub second : Filled (λ k. f (half + k)) (λ k. entry_of after (half + k)) lo hi
  pub kept : (k : ℕ) → entry_of before k ≡ f k → entry_of after k ≡ f k
