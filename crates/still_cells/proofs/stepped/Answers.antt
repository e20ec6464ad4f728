-- The tests of remainders are the tests of whole steps.
use lib.ListN.{length}
use Rattle.plane.proofs.Laws.{multiple}
use Rattle.still_cells.proofs.Whole.{exact, exact_both}
use Rattle.still_cells.proofs.stepped.Goals as goal

pub returns : goal.returns
returns c =
    let a = c.args in
    let n = a.numbers in
    cc (
      exact n.width n.mask_width,
      exact_both n.mask_width n.height (length a.mask.now),
      multiple _ _ _ c.is_multiple_of.ensures,
      multiple _ _ _ c.is_multiple_of-2.ensures,
      multiple _ _ _ c.is_multiple_of-3.ensures,
    )
