-- How many layers are due or were, as one number; the pairs of a due layer's parts; room in a walk; and the sums of a
-- walk, by their lengths.
use Rattle.std.specs.Prelude.{◌≡◌, Bool, cond, ◌&&◌, List, [], ◌∷◌, ℕ, ◌+◌, ◌≤◌, ltb, eqb, get_or, Result, Ok, Err}
use Rattle.rules.specs.declared.Refusal.{Refusal}
use Rattle.rules.specs.declared.Walk.{Walk}
use Rattle.rules.specs.declared.Walked.{Walked}
use Rattle.rules.specs.Domain.{sums_length, chroma_sums_length}
use Rattle.rules.specs.Refusals.{number_of}
use Rattle.rules.specs.Walk.{pairs_in, is_ready, walk_size}

-- the layers that are ready are the first r
abbrev pub Counts : (pairs added r : ℕ) → Type 0
Counts pairs added r = (c : ℕ) → is_ready pairs added c ≡ ltb c r

-- the pairs of the parts that a due layer is fitted from: of the previous part, the own and the next
abbrev pub counts_of : Walk → List ℕ
counts_of w = cond (eqb w.taken 0) 0 12 ∷ pairs_in w.added w.taken ∷ pairs_in w.added (w.taken + 1) ∷ []

-- so many pairs more can be added, and so many layers more taken: a clip has no more layers than pairs
pub record Room (w : Walk) (pairs layers : ℕ) : Type 0 where
  pub added : w.added + pairs ≤ w.pairs
  pub taken : w.taken + layers ≤ w.pairs

-- whether slices of these lengths are a slot's
abbrev pub is_long : (lengths : List ℕ) → Walk → Bool
is_long l w =
    let few = chroma_sums_length (walk_size w) w.ratio in
    eqb (get_or l 0 0) (sums_length (walk_size w)) && eqb (get_or l 1 0) few && eqb (get_or l 2 0) few

-- and slices of these, slot by slot, a walk's
abbrev pub are_long : (lengths : List (List ℕ)) → Walk → Bool
are_long l w = is_long (get_or l 0 []) w && is_long (get_or l 1 []) w && is_long (get_or l 2 []) w

-- what a call of a walk answers: the new walk, or the old one with the number of the refusal
abbrev pub told_by : Result Walk Refusal → (old : Walk) → Walked
told_by (Ok new) old = record { word = 0; walk = new }
told_by (Err r) old = record { word = number_of r; walk = old }
