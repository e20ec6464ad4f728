-- A division by two sides in turn is one by their product.
use native.Mathlib.Nat.{div-div-eq-div-mul}
use Rattle.still_cells.proofs.step_down.Goals as goal

pub returns : goal.returns
returns c = rw (c.divided-2.ensures, c.divided.ensures, div-div-eq-div-mul)
