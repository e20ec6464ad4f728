-- What is left to answer of `lift_count::run`'s goals.
use mathlib.Core.Bool.{not}
use native.Mathlib.Nat.{le_antisymm, add-zero, add_assoc}
use native.Mathlib.Omega.{arith}
use Rattle.lift_count.proofs.Counted.{one_most, on_none, on_near}
use Rattle.lift_count.proofs.run.Goals as goal

pub loop-x-init : goal.loop-x-init
loop-x-init g c = rw add-zero (on_none _ _)

pub loop-x-preserved : goal.loop-x-preserved
loop-x-preserved g c =
    let at-loop = c.loop-x in
    let s = c.args.stretch in
    let near = s.near at-loop.x at-loop.auto.x c.loop-x-test.true in
    let model = (c.requires.reads at-loop.x at-loop.auto.x c.loop-x-test.true).1 _ c.read-model.ensures in
    rw (c.from-more.ensures, c.plain.ensures, ← add_assoc c.args.count at-loop.more _) (on_near model near at-loop.auto.x at-loop.invariant)

pub overflow_add-more : goal.overflow_add-more
overflow_add-more g c =
    let s = c.args.stretch in
    omega (arith, c.loop-x.invariant.few, c.from-more.ensures, one_most (not c.plain.result), s.part.within, s.over.sound.planned.wide.1)

pub returns : goal.returns
returns g c =
    let at-loop = c.loop-x in
    rw (le_antisymm (at-loop.auto.x-end c.args.stretch.part.ahead) c.loop-x-test.false) at at-loop.invariant
