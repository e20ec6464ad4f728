-- The parts of a call as the search takes them, and what it leaves of them. Assumes nothing.
use mathlib.Core.Path.{◌≡◌, ap, ◌∙◌}
use mathlib.Core.List.{List}
use Prim.Native.Nat.{ℕ, ◌*◌, ◌≤◌}
use native.Mathlib.Omega.{arith}
use borrow.Author.Tests.{le-leb}
use lib.ListN.{get_or}
use lib.Ieee.{Float}
use Rattle.std.specs.Prelude.{Result}
use Rattle.rules.specs.declared.Refusal.{Refusal}
use Rattle.rules.specs.Forms.{Parts, cells}
use Rattle.rules.specs.Float.{◌⊗◌}
use Rattle.rules.specs.Refusals.{first_fitting, distances_refusal}
use Rattle.rules.specs.Distances.{distances}
use Rattle.rules.specs.Assembly.{model_slice}
use Rattle.distances.specs.Call as Distances
use Rattle.plane.specs.Slices.{Slices, slice}
use Rattle.calls.specs.Lent.{part_of, parts_of}
use Rattle.fit_trial.specs.declared.Settings.{Settings}
use Rattle.fit_total.specs.declared.Counts.{Counts}
use Rattle.assemble_offsets.specs.declared.Sizes.{Sizes}
use Rattle.fit_keep.specs.Pass.{Kept}
use Rattle.fit_rough.specs.Search.{Searched}
use Rattle.fit_refuse.specs.Call.{parts_by}
use Rattle.fit.specs.Call.{Asks, Modelled}

-- a count of cells is not 0
some : (n : ℕ) → 1 ≤ n → 1 ≤ cells n
some n h = omega arith

-- distances of a cover of some width
pub distances_are : (old left : List ℕ) (width : ℕ) (r : Result Unit Refusal) → 1 ≤ width → Distances.DistancesAnswered (record { cells = old; width = width }) left r → left ≡ distances old width
unfolding distances_refusal first_fitting
distances_are old left width r h done = rw (le-leb 1 width h) at done.cells

module _ (sums : Slices Float) (pairs : List ℕ) (c : Counts) (previous_is : c.previous ≡ get_or pairs 0 0) (own_is : c.own ≡ get_or pairs 1 0) (next_is : c.next ≡ get_or pairs 2 0) where
  abbrev parts : Parts
  parts = parts_by sums pairs

  -- the counts are the parts' own
  pub lent_is : parts_of
      (part_of (slice sums 0) (slice sums 1) (slice sums 2) c.previous)
      (part_of (slice sums 3) (slice sums 4) (slice sums 5) c.own)
      (part_of (slice sums 6) (slice sums 7) (slice sums 8) c.next)
      ≡ parts
  lent_is = rw (previous_is, own_is, next_is)

  module _ (g : Sizes) (models : List Float) (kept cover : List ℕ) (asks : Asks parts g models kept cover) where
    -- what the search, the keeping pass and the distances leave
    pub modelled : (s : Settings) (found left : List Float) (flags marks cells' : List ℕ) (r : Result Unit Refusal)
        → (lent : Parts) → lent ≡ parts → Searched lent g (record { limit = s.limit ⊗ s.limit; evidence = s.evidence; strict = s.strict }) found flags
        → Kept (model_slice found (g.width * g.height)) (g.width, g.height) left marks
        → Distances.DistancesAnswered (record { cells = marks; width = cells g.width }) cells' r
        → Modelled parts g s left cells'
    modelled s found left flags marks cells' r lent e searched keeps done =
        let rough = rw e at searched.rough_is in
        record {
          models_are = rw rough at keeps.models_are;
          cover_is = distances_are marks cells' (cells g.width) r (some g.width asks.formed.wide.0) done ∙ ap (λ (l : List ℕ). distances l (cells g.width)) (rw rough at keeps.cover_is);
        }
