-- What a call of stats answers and leaves.
use Rattle.std.specs.Prelude.{◌≡◌, List, Float, Result}
use Rattle.rules.specs.declared.Refusal.{Refusal}
use Rattle.rules.specs.Calls.{StatsCall}
use Rattle.rules.specs.Refusals.{stats_refusal, numbered}
use Rattle.rules.specs.Stats.{stats_sums, stats_leaves}

-- the sums with the pair added
pub record Added (c : StatsCall) (luma chroma1 chroma2 : List Float) : Type 0 where
  pub luma_is : luma ≡ (stats_sums c).luma
  pub chroma1_is : chroma1 ≡ (stats_sums c).chroma.0
  pub chroma2_is : chroma2 ≡ (stats_sums c).chroma.1

-- what a call answers, and what it leaves in the sums
pub record StatsAnswered (c : StatsCall) (luma chroma1 chroma2 : List Float) (r : Result Unit Refusal) : Type 0 where
  pub answer : numbered r ≡ stats_refusal c
  pub luma_is : luma ≡ (stats_leaves c).luma
  pub chroma1_is : chroma1 ≡ (stats_leaves c).chroma.0
  pub chroma2_is : chroma2 ≡ (stats_leaves c).chroma.1
