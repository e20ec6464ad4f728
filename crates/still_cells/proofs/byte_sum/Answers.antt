-- What is left to answer of `still_cells::byte_sum`'s goals.
use Rattle.std.proofs.Common.{refl, ◌+◌, ◌*◌, ◌≤◌, length, rules, arith}
use native.Mathlib.Nat.{mul-le-mul, le_antisymm}
use native.Mathlib.Numerals.{add-one}
use Rattle.rules.specs.Forms.{turns}
use Rattle.still_cells.specs.Cells.{sum_of}
use Rattle.still_cells.proofs.Places.{row_inside, row_added, row_more, all_rows}
use Rattle.still_cells.proofs.byte_sum.Goals as goal

pub loop-dy-init : goal.loop-dy-init
unfolding turns sum_of
loop-dy-init g c = record { sum = refl; few = omega arith }

pub slice_bounds-run-end : goal.slice_bounds-run-end
slice_bounds-run-end g c =
    let cells = rw (← c.across-across.ensures, ← c.down-down.ensures) at c.requires in
    let inside = row_inside c.args.mask.now _ _ _ c.args.x c.args.y c.loop-dy.dy cells c.loop-dy-test.true in
    let end : c.place-first.result + c.across-across.result ≤ length c.args.mask.now = omega (arith, inside, rw c.place-row.ensures at c.place-first.ensures) in
    search rules

pub overflow_add-n : goal.overflow_add-n
overflow_add-n g c =
    let cells = rw (← c.across-across.ensures, ← c.down-down.ensures) at c.requires in
    let few = cells.few_across in
    let low = cells.few_down in
    let r = row_added c.loop-dy.n cells c.loop-dy-test.true c.place-row.ensures c.place-first.ensures c.run-n.ensures.whole c.run-n.ensures.few in
    let rows : c.loop-dy.dy ≤ 8 = omega arith in
    let each : 255 * c.across-across.result ≤ 2040 = omega arith in
    record { fits = omega (arith, mul-le-mul rows each, c.loop-dy.invariant.few, r.1) }

pub loop-dy-preserved : goal.loop-dy-preserved
unfolding turns sum_of
loop-dy-preserved g c =
    let l = c.loop-dy in
    let cells = rw (← c.across-across.ensures, ← c.down-down.ensures) at c.requires in
    let r = row_added l.n cells c.loop-dy-test.true c.place-row.ensures c.place-first.ensures c.run-n.ensures.whole c.run-n.ensures.few in
    record { sum = rw add-one (rw (← l.invariant.sum) r.0); few = row_more _ _ _ _ l.invariant.few (omega (arith, r.1)) }

pub returns-clause-sum : goal.returns-clause-sum
returns-clause-sum g c =
    let l = c.loop-dy in
    rw (← c.across-across.ensures, ← c.down-down.ensures) (rw (le_antisymm l.auto.dy-end c.loop-dy-test.false) at l.invariant.sum)

pub returns-clause-few : goal.returns-clause-few
returns-clause-few g c =
    let l = c.loop-dy in
    let most = rw (le_antisymm l.auto.dy-end c.loop-dy-test.false, all_rows) at l.invariant.few in
    rw (← c.across-across.ensures, ← c.down-down.ensures) most
