-- A mask whose steps were tested has so many cells for each pixel. Assumes nothing.
use mathlib.Core.Path.{◌≡◌, sym}
use mathlib.Core.Bool.{true, ◌&&◌}
use Prim.Native.Nat.{ℕ, ◌*◌, ◌/◌, ◌≤◌}
use borrow.Author.Tests.{leb-true, eqb-true}
use lib.Dec.{leb, eqb}
use lib.ListN.{length}
use Rattle.std.proofs.lemmas.Bool.{and_parts}
use Rattle.rules.specs.Forms.{Mask}
use Rattle.rules.specs.Domain.{are_sizes, is_step, are_steps}
use Rattle.laws.proofs.Accepted.{sizes_in}
use Rattle.still_cells.specs.Cells.{PlaneCells}

step_in : (side whole : ℕ) → is_step side whole ≡ true → (side * (whole / side) ≡ whole) × (1 ≤ whole / side) × (whole / side ≤ 8)
step_in side whole e =
    let q = whole / side in
    let t = and_parts (eqb (side * q) whole && leb 1 q) (leb q 8) e in
    let u = and_parts (eqb (side * q) whole) (leb 1 q) t.0 in
    (eqb-true _ _ u.0, leb-true _ _ u.1, leb-true _ _ t.1)

pub plane_cells : (m : Mask) (size : ℕ × ℕ) → are_sizes size ≡ true → are_steps m size ≡ true
    → PlaneCells m.bytes m.width (m.width / size.0) (length m.bytes / (m.width * size.1)) size
plane_cells m size s e =
    let z = sizes_in size s in
    let t = and_parts (is_step size.0 m.width) (is_step (m.width * size.1) (length m.bytes)) e in
    let across = step_in size.0 m.width t.0 in
    let down = step_in (m.width * size.1) (length m.bytes) t.1 in
    record {
      narrow = z.0.1;
      low = z.1.1;
      some_across = across.1;
      some_down = down.1;
      few_across = across.2;
      few_down = down.2;
      wide = sym across.0;
      long = down.0;
    }
