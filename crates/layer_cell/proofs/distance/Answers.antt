-- `layer_cell::distance` meets its contract. Assumes nothing.
use mathlib.Core.Path.{◌∙◌}
use mathlib.Core.Bool.{Bool}
use native.Mathlib.Nat.{lt_of_lt_of_le}
use lib.Dec.{eqb}
use mir.Syntax.{w16}
use Rattle.layer_lent.proofs.Signed.{back}
use Rattle.rules.specs.Reading.{distance}
use Rattle.layer_cell.proofs.Ends.{cell_in}
use Rattle.layer_cell.proofs.distance.Goals as goal

pub number-requires-clause-inside : goal.number-requires-clause-inside
number-requires-clause-inside g c =
    let a = c.args in
    let h = a.plan.shape in
    let pl = c.requires.planned in
    let f = pl.formed in
    let luma : Bool = eqb h.plane 0 in
    let x = cell_in luma h.width h.ratio a.x f.ratio f.whole_across (rw pl.is at c.requires.inside.left) in
    let y = cell_in luma h.height h.ratio a.y f.ratio f.whole_down (rw pl.is at c.requires.inside.above) in
    record { left = rw (c.cell_of-column.ensures, pl.is) (lt_of_lt_of_le x f.chroma_pitch.0); above = rw (c.cell_of-row.ensures, pl.is) y }

pub returns : goal.returns
unfolding distance
returns g c =
    back w16 c.number.result c.number.type_inv
    ∙ c.number.ensures
    ∙ rw (c.cell_of-row.ensures, c.cell_of-column.ensures, c.requires.planned.is)
