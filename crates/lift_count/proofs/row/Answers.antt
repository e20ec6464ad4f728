-- What is left to answer of `lift_count::row`'s goals.
use mathlib.Core.Path.{◌≡◌, ◌∙◌}
use Prim.Native.Nat.{◌≤◌}
use native.Mathlib.Omega.{arith}
use Rattle.layer_lent.specs.Lent.{lay}
use Rattle.lift_pixel.proofs.Peels.{far_writes}
use Rattle.lift_rows.specs.Stretches.{column}
use Rattle.lift_count.proofs.Counted.{row_none, row_on, row_far}
use Rattle.lift_count.proofs.row.Goals as goal

pub loop-stretch-init : goal.loop-stretch-init
loop-stretch-init g c =
    let e = c.into_iter-stretch-iterator.ensures.into_iter_gives in
    let of = c.of-stretch-items.ensures in
    let start : column c.args.sheet.plan 0 ≡ 0 = omega arith in
    record { over = rw e of.over; y = rw e of.y; counted = rw (e, of.cell, start) (row_none _) }

pub near_run-counted-requires : goal.near_run-counted-requires
near_run-counted-requires g c =
    let inv = c.loop-stretch.invariant in
    let s = c.in-Some.ensures.steps in
    let part = rw (s.2.0 ∙ inv.over) at c.in-Some.stretch.part in
    let goes = rw (inv.over, inv.y) at s.2.2 in
    omega (arith, inv.counted.few, c.requires.few, goes.ahead, part.ahead, part.within, c.args.sheet.sound.planned.wide.1)

pub loop-stretch-preserved : goal.loop-stretch-preserved
loop-stretch-preserved g c =
    let inv = c.loop-stretch.invariant in
    let s = c.in-Some.ensures.steps in
    let part = rw (s.2.0 ∙ inv.over) at c.in-Some.stretch.part in
    let goes = rw (inv.over, inv.y) at s.2.2 in
    let ran = rw (s.2.0 ∙ inv.over, s.2.1 ∙ inv.y) at c.near_run-counted.ensures in
    let l = lay c.args.sheet.plan.shape (g.L.Lent.held c.args.sheet.layer) in
    record {
      over = s.0 ∙ inv.over;
      y = s.1 ∙ inv.y;
      counted = rw goes.ends at (row_on part.ahead (row_far goes.ahead (λ k low high. far_writes l _ k c.args.y (goes.far k low high)) inv.counted) ran);
    }

pub returns : goal.returns
returns g c =
    let inv = c.loop-stretch.invariant in
    let far = rw (inv.over, inv.y) at c.in-None.ensures.steps.2 in
    let l = lay c.args.sheet.plan.shape (g.L.Lent.held c.args.sheet.layer) in
    let ahead : column c.args.sheet.plan c.loop-stretch.stretch-iterator.cell ≤ c.args.sheet.plan.across = omega arith in
    row_far ahead (λ k low high. far_writes l _ k c.args.y (far k low high)) inv.counted
