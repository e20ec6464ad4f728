-- What is left to answer of `still_corner::mark_rows`'s goals.
use native.Mathlib.Nat.{le_antisymm}
use Rattle.still_corner.proofs.Marks.{no_row, rows_marked}
use Rattle.still_corner.proofs.mark_rows.Goals as goal

pub loop-y-init : goal.loop-y-init
loop-y-init c = λ same h. no_row same _ _ h

pub loop-y-preserved : goal.loop-y-preserved
loop-y-preserved c = λ same h. let i = c.loop-y.invariant same h in rows_marked same _ _ _ _ _ i (c.mark_row.ensures same i.holds)

pub returns : goal.returns
returns c = rw (le_antisymm c.loop-y.auto.y-end c.loop-y-test.false) at c.loop-y.invariant
