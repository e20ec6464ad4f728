-- The table of fit behind the rows of its sums. Assumes nothing.
use mathlib.Core.Path.{◌≡◌}
use mathlib.Core.Bool.{true}
use mathlib.Core.List.{List}
use Prim.Native.Nat.{ℕ}
use lib.Ieee.{Float}
use Rattle.rules.specs.Calls.{FitCall}
use Rattle.rules.specs.Domain.{are_sizes, is_ratio, are_sums}
use Rattle.rules.specs.Forms.{Fit}
use Rattle.rules.specs.Refusals.{first_fitting, is_neighbour, work_rows, fit_refusal}
use Rattle.plane.specs.Slices.{Slices}
use Rattle.fit_refuse.specs.declared.Numbers.{Numbers}
use Rattle.fit_refuse.specs.Call.{part_by, fit_by, count_rows}

module _ (sums : Slices Float) (n : Numbers) (models : List Float) (kept cover : List ℕ) (output : Fit) where
  abbrev call : FitCall
  call = fit_by sums n models kept cover output

  pub behind : are_sizes (n.width, n.height) ≡ true → is_ratio n.ratio (n.width, n.height) ≡ true
      → is_neighbour (part_by sums n.pairs 0) (n.width, n.height) n.ratio ≡ true
      → are_sums (part_by sums n.pairs 1) (n.width, n.height) n.ratio ≡ true
      → is_neighbour (part_by sums n.pairs 2) (n.width, n.height) n.ratio ≡ true
      → fit_refusal call ≡ first_fitting (work_rows call (count_rows n.pairs))
  unfolding fit_refusal first_fitting
  behind a b p o q = rw (a, b, p, o, q)
