-- What a call answers and leaves, by whether it is refused. Assumes nothing.
use mathlib.Core.Path.{◌≡◌, refl, ap}
use mathlib.Core.Bool.{Bool, true, false}
use mathlib.Core.List.{[], ◌∷◌}
use Prim.Native.Nat.{ℕ}
use lib.Dec.{eqb}
use Rattle.std.specs.Prelude.{Result, Ok, Err, IsErrAnd, MatchResult}
use Rattle.rules.specs.declared.Refusal.{Refusal}
use Rattle.rules.specs.declared.Refusal.TheVariants.{Size, Ratio, Pitch, Length, Movement, Setting, Pairs, Cut, Kind, Payload, Turn}
use Rattle.rules.specs.Forms.{answer, leaves}
use Rattle.rules.specs.Refusals.{◌unless◌, number_of, numbered, first_fitting, answered}

-- no refusal has the number 0
pub number_some : (r : Refusal) → eqb (number_of r) 0 ≡ false
number_some Size = refl
number_some Ratio = refl
number_some Pitch = refl
number_some Length = refl
number_some Movement = refl
number_some Setting = refl
number_some Pairs = refl
number_some Cut = refl
number_some Kind = refl
number_some Payload = refl
number_some Turn = refl

-- what a `?` hands on is what it met
pub handed : {A E : Type 0} {e : E} (r : Result A E) → IsErrAnd r (λ y. y ≡ e) → r ≡ Err e
handed (Ok a) h = absurd h
handed (Err y) h = ap Err h

-- the last row of a table, by its test
pub last_row : (refusal : Refusal) (right : Bool) (r : Result Unit Refusal) → MatchResult r (λ _. right ≡ true) (λ e. (right ≡ false) × (e ≡ refusal))
    → numbered r ≡ first_fitting ((number_of refusal unless right) ∷ [])
unfolding first_fitting
last_row refusal right (Ok u) h = rw h
last_row refusal right (Err e) h = rw (h.0, h.1)

-- a refused call leaves the old, an accepted one the new
module _ {A : Type 0} where
  pub stays : (r : Refusal) (number : ℕ) (new old : A) → number_of r ≡ number → leaves number new old ≡ old
  stays r number new old e = simp (← e, number_some r)

  pub goes : (number : ℕ) (new old : A) → 0 ≡ number → leaves number new old ≡ new
  goes number new old e = simp (← e)

-- a refused call counts nothing, an accepted one what it counts
pub answers_refused : (r : Refusal) (number count : ℕ) → number_of r ≡ number → answered (Err r) ≡ answer number count
answers_refused r number count e = simp (← e, number_some r)

pub answers_count : (number count : ℕ) → 0 ≡ number → answered (Ok count) ≡ answer number count
answers_count number count e = simp (← e)
