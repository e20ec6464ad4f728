-- The records of a parcel, from a place on. Assumes nothing.
use mathlib.Core.Path.{◌≡◌, refl, sym, ◌∙◌}
use mathlib.Core.Bool.{cond}
use mathlib.Core.List.{List, [], ◌∷◌}
use Prim.Native.Nat.{ℕ, zero, suc, ◌+◌, ◌-◌, ◌≤◌}
use native.Mathlib.Nat.{add-zero, add-suc}
use native.Mathlib.Omega.{arith}
use lib.ListN.{length, drop, length-drop}
use Rattle.rules.specs.Parcel.{length_at, begins_whole, first_record, split}
use Rattle.parcel_records.specs.Steps.{splits}

-- ---- as many turns as there are bytes are enough

-- the bytes behind the first record
abbrev pub later : List ℕ → List ℕ
later bytes = drop (6 + length_at bytes) bytes

one_more : (n : ℕ) (bytes : List ℕ) → length bytes ≤ n → split (suc n) bytes ≡ split n bytes
unfolding split
one_more zero [] h = refl
one_more zero (b ∷ bytes) h = absurd (omega arith)
one_more (suc n) bytes h = rw (one_more n (later bytes) (rw (length-drop (6 + length_at bytes) bytes) (omega arith)))

enough : (d : ℕ) (bytes : List ℕ) → split (length bytes + d) bytes ≡ splits bytes
enough zero bytes = rw (add-zero (length bytes))
enough (suc d) bytes = rw (add-suc (length bytes) d) (one_more (length bytes + d) bytes (omega arith) ∙ enough d bytes)

turned : (n : ℕ) (bytes : List ℕ) → length bytes ≤ n → split n bytes ≡ splits bytes
turned n bytes h = let e : length bytes + (n - length bytes) ≡ n = omega arith in rw e at (enough (n - length bytes) bytes)

-- the first record, and then the later ones
pub opened : (bytes : List ℕ) → splits bytes ≡ cond (begins_whole bytes) (first_record bytes ∷ (splits (later bytes)).0, (splits (later bytes)).1) ([], bytes)
unfolding split
opened bytes =
    sym (one_more (length bytes) bytes (omega arith))
    ∙ rw (turned (length bytes) (later bytes) (rw (length-drop (6 + length_at bytes) bytes) (omega arith)))
