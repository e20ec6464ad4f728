-- The invariant of `still_mask::halve`: the first bytes are halved, the others as they were.
use Rattle.std.proofs.Common.{◌≡◌, ℕ, ◌/◌, ◌≤◌, ◌<◌, get_or}
use Rattle.still_mask.proofs.halve.Given as goal

abbrev pub invariant-loop-b : goal.invariant-loop-b
invariant-loop-b l = record {
  halved : (k : ℕ) → k < l.b-index → get_or l.still k 0 ≡ get_or l.initial.still k 0 / 2;
  others : (k : ℕ) → l.b-index ≤ k → get_or l.still k 0 ≡ get_or l.initial.still k 0;
}
