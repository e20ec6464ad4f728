-- The invariant of `still_corner::mark_row`: the first x pixels have both bits, and two columns are held.
use mathlib.Core.Path.{◌≡◌}
use mathlib.Core.Bool.{Bool}
use Prim.Native.Nat.{ℕ, ◌-◌}
use Rattle.still_corner.specs.Corner.{column_of, Holds, RowMarked}
use Rattle.still_corner.proofs.mark_row.Given as goal

abbrev pub invariant-loop-x : goal.invariant-loop-x
invariant-loop-x l =
    (same : ℕ → ℕ → Bool) → Holds same (l.width, l.height) l.initial.still
    → RowMarked same (l.width, l.height) l.y l.x l.initial.still l.still × (l.mid ≡ column_of same l.x l.above l.y l.below) × (l.left ≡ column_of same (l.x - 1) l.above l.y l.below)
