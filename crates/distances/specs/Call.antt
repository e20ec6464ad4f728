-- What the call answers and leaves.
use Rattle.std.specs.Prelude.{◌≡◌, List, ℕ, Result}
use Rattle.rules.specs.declared.Refusal.{Refusal}
use Rattle.rules.specs.Calls.{DistancesCall}
use Rattle.rules.specs.Refusals.{numbered, distances_refusal}
use Rattle.rules.specs.Distances.{distances_leaves}

pub record DistancesAnswered (c : DistancesCall) (left : List ℕ) (r : Result Unit Refusal) : Type 0 where
  pub answer : numbered r ≡ distances_refusal c
  pub cells : left ≡ distances_leaves c
