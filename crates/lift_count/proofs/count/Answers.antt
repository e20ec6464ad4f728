-- What is left to answer of `lift_count::count`'s goals.
use mathlib.Core.Path.{ap}
use native.Mathlib.Nat.{le_antisymm}
use native.Mathlib.Omega.{arith}
use Rattle.layer_lent.specs.declared.Plan.{Plan}
use Rattle.lift_count.proofs.Counted.{rows_none, rows_more, counts}
use Rattle.lift_count.proofs.count.Goals as goal

pub loop-y-init : goal.loop-y-init
loop-y-init g c = rows_none

pub row-n-requires-clause-few : goal.row-n-requires-clause-few
row-n-requires-clause-few g c = omega (arith, c.loop-y.invariant.few, c.loop-y-test.true, c.args.sheet.sound.planned.tall.1)

pub loop-y-preserved : goal.loop-y-preserved
loop-y-preserved g c = rows_more c.args.sheet.sound.planned.wide.1 c.loop-y.invariant c.row-n.ensures

pub returns : goal.returns
returns g c =
    let at-loop = c.loop-y in
    let h = c.args.sheet.sound.planned in
    counts (ap (λ (p : Plan). p.across) h.is) (ap (λ (p : Plan). p.down) h.is)
    (rw (le_antisymm (omega arith) c.loop-y-test.false) at at-loop.invariant)
