-- The figures of the cell lookup: closed by computation. Assumes nothing.
use mathlib.Core.Path.{refl}
use Rattle.rules.specs.Reading.{distance}
use Rattle.figures.specs.Cells.{Sides, MarkedCell}

pub sides : Sides
unfolding distance
sides = (refl, refl, refl, refl, refl, refl, refl, refl, refl)

pub marked_cell : MarkedCell
marked_cell = (refl, refl, refl, refl, refl)
