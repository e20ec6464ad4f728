-- What is left to answer of `next`'s goals.
use mathlib.Core.Path.{refl}
use mathlib.Core.Bool.{true, false}
use Prim.Native.Nat.{◌-◌}
use native.Mathlib.Nat.{mul-le-mul_right}
use native.Mathlib.Omega.{arith}
use Rattle.layer_lent.specs.Lent.{lay}
use Rattle.lift_rows.specs.Stretches.{cells_of, Goes}
use Rattle.lift_rows.proofs.Cells.{begins, ends, all_columns, alike, near_cells, stops}
use Rattle.lift_rows.proofs.stretch.StretchesIterator.next.Goals as goal

pub returns-in_err-first-clause-steps : goal.returns-in_err-first-clause-steps
returns-in_err-first-clause-steps g c =
    let s = c.args.self.now in
    let e = c.sheet-sheet.ensures in
    let p = g.W.Over.plan s.over in
    let held = g.W.Over.held s.over in
    let h = (g.met.W.Over.sound s.over).planned in
    let far = rw (c.cell_of-row.ensures, e.plan, e.held) at c.in_err-first.ensures in
    let all = all_columns p held h in
    (refl, refl, rw c.from_residual.ensures (λ k low high. alike p held h false s.y s.cell (cells_of p) far k low (omega (arith, all, high))))

pub cell_end-requires-clause-inside : goal.cell_end-requires-clause-inside
cell_end-requires-clause-inside g c =
    let s = c.args.self.now in
    let e = c.sheet-sheet.ensures in
    let p = g.W.Over.plan s.over in
    let held = g.W.Over.held s.over in
    let h = (g.met.W.Over.sound s.over).planned in
    let first = rw (c.cell_of-row.ensures, e.plan, e.held) at c.in_ok-first.ensures in
    let next = rw (c.cell_of-row.ensures, e.plan, e.held) at c.seek-2.ensures in
    let run = near_cells (lay p.shape held) _ _ _ _ c.unwrap_or-end.result c.seek-2.result first next (rw (c.cells.ensures, e.plan) at c.unwrap_or-end.ensures) in
    let last = begins p held h (c.unwrap_or-end.result - 1) (omega (arith, run.ahead, run.within)) in
    rw (c.place-2.ensures, e.plan) (omega (arith, last))

pub invariant_of-result : goal.invariant_of-result
invariant_of-result g c =
    let s = c.args.self.now in
    let e = c.sheet-sheet.ensures in
    let p = g.W.Over.plan s.over in
    let held = g.W.Over.held s.over in
    let h = (g.met.W.Over.sound s.over).planned in
    let first = rw (c.cell_of-row.ensures, e.plan, e.held) at c.in_ok-first.ensures in
    let next = rw (c.cell_of-row.ensures, e.plan, e.held) at c.seek-2.ensures in
    let run = near_cells (lay p.shape held) _ _ _ _ c.unwrap_or-end.result c.seek-2.result first next (rw (c.cells.ensures, e.plan) at c.unwrap_or-end.ensures) in
    let from = rw e.plan at c.place.ensures in
    let to = ends p held h c.unwrap_or-end.result c.place-2.result c.cell_end.result (omega (arith, run.ahead)) (rw e.plan at c.place-2.ensures) (rw e.plan at c.cell_end.ensures.ends) in
    let start = begins p held h _ first.within in
    let more = mul-le-mul_right p.side run.ahead in
    record {
      part = record { above = s.above; ahead = omega (arith, from, to, start, more); within = omega (arith, to) };
      near = λ k low high. alike p held h true s.y _ _ run.near k (omega (arith, from, low)) (omega (arith, to, high));
    }

pub returns-clause-steps : goal.returns-clause-steps
returns-clause-steps g c =
    let s = c.args.self.now in
    let e = c.sheet-sheet.ensures in
    let p = g.W.Over.plan s.over in
    let held = g.W.Over.held s.over in
    let h = (g.met.W.Over.sound s.over).planned in
    let first = rw (c.cell_of-row.ensures, e.plan, e.held) at c.in_ok-first.ensures in
    let next = rw (c.cell_of-row.ensures, e.plan, e.held) at c.seek-2.ensures in
    let run = near_cells (lay p.shape held) _ _ _ _ c.unwrap_or-end.result c.seek-2.result first next (rw (c.cells.ensures, e.plan) at c.unwrap_or-end.ensures) in
    let from = rw e.plan at c.place.ensures in
    let to = ends p held h c.unwrap_or-end.result c.place-2.result c.cell_end.result (omega (arith, run.ahead)) (rw e.plan at c.place-2.ensures) (rw e.plan at c.cell_end.ensures.ends) in
    let start = begins p held h _ first.within in
    let more = mul-le-mul_right p.side first.ahead in
    let further = mul-le-mul_right p.side run.ahead in
    let goes : Goes p held s.y s.cell c.place.result c.cell_end.result c.unwrap_or-end.result =
    record {
      ahead = omega (arith, from, more);
      some = omega (arith, from, to, start, further, h.small);
      far = λ k low high. alike p held h false s.y _ _ first.before k low (omega (arith, from, start, high));
      ends = omega (arith, to);
      stops = λ less. stops p held h s.y _ _ c.cell_end.result run to less;
    } in
    (refl, refl, (refl, refl, goes))
