-- What is left to answer of `lift_rows::run`'s goals.
use mathlib.Core.Path.{refl, ◌∙◌}
use native.Mathlib.Nat.{add-zero, le_antisymm}
use native.Mathlib.Omega.{arith}
use Rattle.lift_rows.proofs.Cells.{run_none, run_more, counted_on}
use Rattle.lift_rows.proofs.run.Goals as goal

pub loop-x-init : goal.loop-x-init
loop-x-init g c = record { done = rw add-zero (run_none _ _ _ _ _ _); long = refl }

pub mark-more-requires-clause-few : goal.mark-more-requires-clause-few
mark-more-requires-clause-few g c =
    let s = c.args.stretch in
    omega (arith, c.loop-x.invariant.done.few, s.part.within, (g.met.W.Over.sound s.over).planned.wide.1)

pub loop-x-preserved : goal.loop-x-preserved
loop-x-preserved g c =
    let at-loop = c.loop-x in
    let inv = at-loop.invariant in
    let low = at-loop.auto.x in
    let k = rw c.sheet-pitch.ensures.plan at c.place-k.ensures in
    let is = (c.requires.changes at-loop.x _ low c.loop-x-test.true).1 _ c.change-byte.ensures in
    record {
      done = run_more low inv.done (rw k at is) (counted_on c.args.count _ (rw k at c.mark-more.ensures));
      long = c.mark-more.auto.output ∙ inv.long;
    }

pub returns : goal.returns
returns g c =
    let at-loop = c.loop-x in
    rw (le_antisymm (at-loop.auto.x-end c.args.stretch.part.ahead) c.loop-x-test.false) at at-loop.invariant.done
