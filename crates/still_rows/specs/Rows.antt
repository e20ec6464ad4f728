-- The rule of a work by the steps of a mask.
use Rattle.std.specs.Prelude.{Bool, List, ℕ, ◌+◌, ◌*◌}
use Rattle.rules.specs.Forms.{Rule}
use Rattle.still_cells.specs.declared.Numbers.{Numbers}
use Rattle.still_cells.specs.Cells.{sum_of}

-- which pixels are written by their sums, and the byte by a place in the frames, with so many cells across and down
unfoldable pub ruled : (writes : (sum cells : ℕ) → Bool) → (byte : (k old sum cells : ℕ) → ℕ) → (mask : List ℕ) → Numbers → (across down : ℕ) → Rule
ruled writes byte mask n across down =
    let sum : ℕ → ℕ → ℕ = λ x y. sum_of mask n.mask_width across down x y down in
    record {
      writes = λ x y. writes (sum x y) (across * down);
      byte = λ x y old. byte (y * n.pitch + x) old (sum x y) (across * down);
    }
