-- What is left to answer of `render::render`'s goals: where the call is not refused, no row of the table fits.
use mathlib.Core.Path.{refl}
use mathlib.Core.List.{[], ◌∷◌}
use native.Mathlib.Omega.{arith}
use mir.Facts.{to_z-of_z}
use Rattle.std.proofs.lemmas.Result.{err_from_is_err_and}
use Rattle.render.proofs.Accepted.{runs, refused, ran}
use Rattle.render.proofs.render.Goals as goal

pub returns-in_err-tested : goal.returns-in_err-tested
returns-in_err-tested g c =
    let p = err_from_is_err_and c.from_residual.result c.from_residual.ensures.1 in
    let a = c.args in
    rw (p.1, p.2) (refused a.shape (g.L.Lent.held a.layer) a.output.now (a.first ∷ a.second ∷ []) a.fields a.grid a.algo _ (c.in_err-tested.ensures a.algo))

pub far-far-requires : goal.far-far-requires
far-far-requires g c =
    let a = c.args in
    let r = runs a.shape (g.L.Lent.held a.layer) (a.first ∷ a.second ∷ []) a.fields a.output.now a.grid a.algo (c.in_ok-tested.ensures a.algo) in
    r.moves.laid.parts

pub invariant_of-lattice : goal.invariant_of-lattice
invariant_of-lattice g c =
    let a = c.args in
    let r = runs a.shape (g.L.Lent.held a.layer) (a.first ∷ a.second ∷ []) a.fields a.output.now a.grid a.algo (c.in_ok-tested.ensures a.algo) in
    rw c.planned-plan.ensures (record { laid = r.moves.laid })

pub invariant_of-motion : goal.invariant_of-motion
invariant_of-motion g c =
    let a = c.args in
    let r = runs a.shape (g.L.Lent.held a.layer) (a.first ∷ a.second ∷ []) a.fields a.output.now a.grid a.algo (c.in_ok-tested.ensures a.algo) in
    rw c.planned-plan.ensures (record { moves = r.moves })

pub invariant_of-sheet : goal.invariant_of-sheet
invariant_of-sheet g c =
    let a = c.args in
    let r = runs a.shape (g.L.Lent.held a.layer) (a.first ∷ a.second ∷ []) a.fields a.output.now a.grid a.algo (c.in_ok-tested.ensures a.algo) in
    rw c.planned-plan.ensures (record { sound = r.sound })

pub invariant_of-frames : goal.invariant_of-frames
invariant_of-frames g c =
    let a = c.args in
    let r = runs a.shape (g.L.Lent.held a.layer) (a.first ∷ a.second ∷ []) a.fields a.output.now a.grid a.algo (c.in_ok-tested.ensures a.algo) in
    rw c.planned-plan.ensures (record { lies = r.first_lies })

pub invariant_of-frames-2 : goal.invariant_of-frames-2
invariant_of-frames-2 g c =
    let a = c.args in
    let r = runs a.shape (g.L.Lent.held a.layer) (a.first ∷ a.second ∷ []) a.fields a.output.now a.grid a.algo (c.in_ok-tested.ensures a.algo) in
    rw c.planned-plan.ensures (record { lies = r.second_lies })

pub invariant_of-frames-3 : goal.invariant_of-frames-3
invariant_of-frames-3 g c =
    record {
      layer = refl;
      plan = refl;
      first_small = λ k. omega (arith, c.type_inv.first k);
      second_small = λ k. omega (arith, c.type_inv.second k);
    }

pub rows-requires : goal.rows-requires
rows-requires g c =
    let a = c.args in
    let r = runs a.shape (g.L.Lent.held a.layer) (a.first ∷ a.second ∷ []) a.fields a.output.now a.grid a.algo (c.in_ok-tested.ensures a.algo) in
    rw c.planned-plan.ensures r.room

pub returns : goal.returns
returns g c =
    let a = c.args in
    let r = runs a.shape (g.L.Lent.held a.layer) (a.first ∷ a.second ∷ []) a.fields a.output.now a.grid a.algo (c.in_ok-tested.ensures a.algo) in
    let rows = rw (c.planned-plan.ensures, to_z-of_z c.ranges.algo) at c.rows.ensures in
    ran a.shape (g.L.Lent.held a.layer) a.output.now (a.first ∷ a.second ∷ []) a.fields a.grid a.algo _ _ (c.in_ok-tested.ensures a.algo) r.first_lies.tall.1 rows
