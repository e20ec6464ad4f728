-- What a pixel becomes is what its rule puts there. Assumes nothing.
use mathlib.Core.Path.{◌≡◌, ◌∙◌}
use mathlib.Core.Bool.{Bool, cond}
use mathlib.Core.List.{List}
use Prim.Native.Nat.{ℕ, ◌+◌, ◌*◌}
use Rattle.still_pass.specs.Pass.{put}
use Rattle.still_cells.specs.declared.Numbers.{Numbers}
use Rattle.still_cells.specs.Cells.{sum_of}
use Rattle.still_rows.specs.Rows.{ruled}

pub ruled_put : (writes : (sum cells : ℕ) → Bool) (byte : (k old sum cells : ℕ) → ℕ) (mask : List ℕ) (n : Numbers) (across down x y old : ℕ) {k sum cells r : ℕ}
    → k ≡ y * n.pitch + x → sum ≡ sum_of mask n.mask_width across down x y down → cells ≡ across * down
    → r ≡ cond (writes sum cells) (byte k old sum cells) old → r ≡ put (ruled writes byte mask n across down) x y old
unfolding put ruled
ruled_put writes byte mask n across down x y old p s c e = e ∙ rw (p, s, c)
