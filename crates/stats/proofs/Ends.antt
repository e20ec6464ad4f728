-- A call of stats ends refused, or run.
-- Assumes nothing.
use mathlib.Core.Path.{◌≡◌, sym, ap, ◌∙◌}
use mathlib.Core.List.{List}
use lib.Ieee.{Float}
use Rattle.std.specs.Prelude.{Ok, Err}
use Rattle.rules.specs.declared.Refusal.{Refusal}
use Rattle.rules.specs.Forms.{Part}
use Rattle.rules.specs.Calls.{StatsCall}
use Rattle.rules.specs.Refusals.{number_of, stats_refusal}
use Rattle.rules.specs.Stats.{stats_sums, stats_leaves}
use Rattle.laws.proofs.Answered.{stays, goes}
use Rattle.stats.specs.Answered.{Added, StatsAnswered}

module _ (c : StatsCall) where
  pub refused : (r : Refusal) → number_of r ≡ stats_refusal c → StatsAnswered c c.sums.luma c.sums.chroma.0 c.sums.chroma.1 (Err r)
  refused r e =
      let left : c.sums ≡ stats_leaves c = sym (stays r (stats_refusal c) (stats_sums c) c.sums e) in
      record { answer = e; luma_is = ap (λ (p : Part). p.luma) left; chroma1_is = ap (λ (p : Part). p.chroma.0) left; chroma2_is = ap (λ (p : Part). p.chroma.1) left }

  pub ran : (luma chroma1 chroma2 : List Float) → 0 ≡ stats_refusal c → Added c luma chroma1 chroma2 → StatsAnswered c luma chroma1 chroma2 (Ok tt)
  ran luma chroma1 chroma2 z a =
      let left : stats_sums c ≡ stats_leaves c = sym (goes (stats_refusal c) (stats_sums c) c.sums z) in
      record {
        answer = z;
        luma_is = a.luma_is ∙ ap (λ (p : Part). p.luma) left;
        chroma1_is = a.chroma1_is ∙ ap (λ (p : Part). p.chroma.0) left;
        chroma2_is = a.chroma2_is ∙ ap (λ (p : Part). p.chroma.1) left;
      }
