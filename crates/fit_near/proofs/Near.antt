-- One pixel of a model slice, by its column and row. Assumes nothing.
use mathlib.Core.Path.{◌≡◌, refl, ap}
use mathlib.Core.Bool.{Bool, true, false, cond}
use mathlib.Core.List.{List}
use Prim.Native.Nat.{ℕ, ◌+◌, ◌*◌, ◌<◌}
use native.Mathlib.Nat.{mul_comm, add-zero}
use native.Mathlib.Omega.{arith}
use lib.Arith.{digits_div, digits_lt, digits_mod}
use lib.Dec.{leb}
use mir.Val.{bool_byte}
use lib.Ieee.{Float}
use Rattle.rules.specs.declared.Model.{Model}
use Rattle.rules.specs.Model.{Fitted, set, is_plain}
use Rattle.rules.specs.Keeping.{model_of, near}
use Rattle.rules.specs.Assembly.{model_slice}
use Rattle.table.specs.Models.{model_at}
use Rattle.table.proofs.Models.{model_at_lem}
use Rattle.fit_near.specs.declared.Verdict.TheVariants.{Dropped, Unmarked, Marked}
use Rattle.fit_near.specs.Verdict.{verdict_of}

module _ (models : List Float) (width height x y : ℕ) (left : x < width) (above : y < height) where
  pub pixel_in : y * width + x < width * height
  pixel_in = omega (arith, digits_lt above left, mul_comm height width)

  pub model_is : model_of (model_slice models (width * height)) (y * width + x) ≡ (model_at models (y * width + x)).model
  model_is = ap (λ (m : Fitted). m.model) (model_at_lem models (width * height) (y * width + x) pixel_in)

-- one more, or not
pub one_more : (b : Bool) (n : ℕ) → n + bool_byte b ≡ cond b (n + 1) n
one_more true n = refl
one_more false n = add-zero n

-- what becomes of a pixel, of its model
pub verdict_is : (models : List Float) (width height x y : ℕ) → x < width → y < height → (m : Model) → m ≡ (model_at models (y * width + x)).model
    → verdict_of (model_slice models (width * height)) (width, height) (y * width + x)
    ≡ cond (set m) (cond (leb 3 (near (model_slice models (width * height)) (width, height) x y)) Marked Dropped) (cond (is_plain m) Dropped Unmarked)
unfolding verdict_of
verdict_is models width height x y left above m e =
    rw (model_is models width height x y left above, ← e, digits_mod y left, digits_div y left)
