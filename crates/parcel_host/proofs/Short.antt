-- A slice whose numbers have 16 bits, one after another. Assumes nothing.
use mathlib.Core.Path.{◌≡◌, refl, ap, ◌∙◌}
use mathlib.Core.Bool.{true}
use mathlib.Core.List.{List}
use Prim.Native.Nat.{ℕ, ◌<◌}
use lib.IntN.{ℤ, pos}
use lib.ListN.{length, get_or}
use Rattle.rules.specs.Forms.{each}
use Rattle.rules.specs.Parcel.{is_short}
use Rattle.laws.proofs.Lists.{is_table, each_table}

-- the numbers before a place
abbrev pub ShortTo : List ℤ → (k : ℕ) → Type 0
ShortTo list k = (j : ℕ) → j < k → is_short (get_or list j (pos 0)) ≡ true

-- all of them
pub all_short : (list : List ℤ) → ShortTo list (length list) → each is_short list ≡ true
all_short list h =
    ap (λ (l : List ℤ). each is_short l) (is_table (length list) (λ k. get_or list k (pos 0)) list (pos 0) refl (λ k b. refl))
    ∙ each_table is_short (length list) (λ k. get_or list k (pos 0)) h
