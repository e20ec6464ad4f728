-- The runs of a layer's records lie within its slices, and their bytes within the output. Assumes nothing.
use mathlib.Core.Path.{◌≡◌}
use mathlib.Core.List.{List}
use Prim.Native.Nat.{ℕ, ◌+◌, ◌*◌, ◌/◌, ◌≤◌}
use native.Mathlib.Nat.{mul-le-mul, mul-le-mul_left, mul_comm, div-le_self, le_trans}
use native.Mathlib.Omega.{arith}
use lib.ListN.{length}
use Rattle.rules.specs.Forms.{cells}
use Rattle.rules.specs.Domain.{parcel_length}
use Rattle.laws.proofs.Accepted.{cells_in}
use Rattle.plane.specs.Slices.{slice}
use Rattle.layer_lent.specs.declared.Shape.{Shape}
use Rattle.layer_lent.specs.Lent.{Numbers}
use Rattle.parcel_put.specs.Runs.{RunFits}
use Rattle.parcel_write.specs.Write.{Fitting}

module _ (s : Shape) (numbers : Numbers) (f : Fitting s numbers) (across rows : ℕ) (is-across : across ≡ s.width / s.ratio) (is-rows : rows ≡ s.height / s.ratio) where
  pub far : rows * s.chroma_pitch ≤ 268435456
  far =
      let tall : rows ≤ 4096 = rw is-rows (le_trans (div-le_self s.height s.ratio) f.formed.tall.1) in
      mul-le-mul tall f.formed.chroma_pitch.1

  narrow : across ≤ s.chroma_pitch
  narrow = rw is-across f.formed.chroma_pitch.0

  pub cells_fit : (output : List ℕ) → length output ≡ parcel_length (s.width, s.height) s.ratio
      → (at w h : ℕ) → at ≡ 36 + 4 * (s.width * s.height) + 4 * (across * rows) → w ≡ cells s.width → h ≡ cells s.height
      → RunFits output (at + 6) (slice numbers 2) (record { from = rows * s.chroma_pitch; pitch = s.chroma_pitch; width = w; rows = h })
  cells_fit output long at w h e is-w is-h =
      let whole = rw (← is-across, ← is-rows, ← is-w, ← is-h) at long in
      let second = rw (← is-rows) at f.second_long in
      let few : w ≤ across = rw (is-w, is-across) (cells_in s.width s.ratio f.formed.ratio.1 f.formed.whole_across) in
      let low : h ≤ rows = rw (is-h, is-rows) (cells_in s.height s.ratio f.formed.ratio.1 f.formed.whole_down) in
      record {
        narrow = le_trans few narrow;
        room = omega arith;
        inside = omega (arith, mul-le-mul_left s.chroma_pitch low, mul_comm rows s.chroma_pitch);
      }
