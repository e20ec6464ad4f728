-- The invariant of `still_corner::mark_rows`: the first y rows have both bits.
use mathlib.Core.Bool.{Bool}
use Prim.Native.Nat.{ℕ}
use Rattle.still_corner.specs.Corner.{Holds, RowsMarked}
use Rattle.still_corner.proofs.mark_rows.Given as goal

abbrev pub invariant-loop-y : goal.invariant-loop-y
invariant-loop-y l =
    (same : ℕ → ℕ → Bool) → Holds same (l.width, l.height) l.initial.still → RowsMarked same (l.width, l.height) l.y l.initial.still l.still
