-- The sums of a pixel with its terms added, as the code adds them.
use Rattle.std.specs.Prelude.{cond, List, ℕ, ◌+◌, eqb, get_or, set, Float}
use Rattle.std.specs.Float.{nan}
use Rattle.rules.specs.Forms.{turns}
use Rattle.rules.specs.Literals.{0·0}
use Rattle.rules.specs.Float.{◌⊕◌}

-- what a sum starts from
abbrev pub start_of : (pairs : ℕ) → (old : Float) → Float
start_of pairs old = cond (eqb pairs 0) 0·0 old

-- one sum with a term added
abbrev pub one_added : (pairs : ℕ) → (term : Float) → (k : ℕ) → List Float → List Float
one_added pairs term k sums = set sums k (start_of pairs (get_or sums k nan) ⊕ term)

-- the first `many` terms, from place k on
unfoldable pub terms_added : (pairs many : ℕ) → (terms : List Float) → (k : ℕ) → List Float → List Float
terms_added pairs many ts k = turns (λ j. one_added pairs (get_or ts j nan) (k + j)) many
