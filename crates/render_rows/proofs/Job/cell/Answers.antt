-- What is left to answer of `render_rows::Job::cell`'s goals.
use native.Mathlib.Omega.{arith}
use mir.Syntax.{w16}
use Rattle.layer_lent.proofs.Signed.{back}
use Rattle.lift_rows.proofs.Cells.{run_skip}
use Rattle.render_rows.proofs.Changes.{far_cell, cell_one}
use Rattle.render_rows.proofs.Job.cell.Goals as goal

pub distance-distance-requires-clause-planned : goal.distance-distance-requires-clause-planned
distance-distance-requires-clause-planned g c = c.args.self.now.frames.first.sheet.sound.planned

pub distance-distance-requires-clause-long : goal.distance-distance-requires-clause-long
distance-distance-requires-clause-long g c = c.args.self.now.frames.first.sheet.sound.second_long

pub run-requires : goal.run-requires
run-requires g c =
    let d = c.distance-distance.result in
    let h = c.args.self.now.frames.first.sheet.sound.planned in
    let e = back w16 d c.distance-distance.type_inv in
    let a = c.args in
    record {
      room = c.requires.room;
      holds = c.requires.holds;
      near = rw e (record {
        one = cell_one _ h (g.L.Lent.held a.self.now.frames.first.sheet.layer) a.piece.y _ _ d c.requires.cell c.distance-distance.ensures;
        near = rw (c.within.ensures, c.gap.ensures, e) at c.if-within.true;
      });
    }

pub returns-else-within : goal.returns-else-within
returns-else-within g c =
    let d = c.distance-distance.result in
    let h = c.args.self.now.frames.first.sheet.sound.planned in
    let far = rw (c.within.ensures, c.gap.ensures, back w16 d c.distance-distance.type_inv) at c.if-within.false in
    let a = c.args in
    let one = cell_one _ h (g.L.Lent.held a.self.now.frames.first.sheet.layer) a.piece.y _ _ d c.requires.cell c.distance-distance.ensures in
    record {
      row = run_skip _ _ _ _ _ _ _ (omega (arith, c.requires.room.ahead))
          (far_cell a.self.now _ _ _ d one far);
      holds = c.requires.holds.holds;
    }
