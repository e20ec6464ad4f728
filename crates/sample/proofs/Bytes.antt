-- A pixel's byte stands within its plane.
-- Assumes nothing.
use Prim.Native.Nat.{ℕ, ◌+◌, ◌-◌, ◌*◌, ◌≤◌, ◌<◌}
use native.Mathlib.Nat.{mul-le-mul_right}
use native.Mathlib.Omega.{arith}
use mathlib.Core.List.{List}
use lib.ListN.{length}
use Rattle.sample.specs.Points.{PlaneFits}

pub byte_in : {raw : List ℕ} {pitch width height : ℕ} (x y : ℕ) → PlaneFits raw pitch width height → x < width → y < height
    → y * pitch + x < length raw
byte_in {raw} {pitch} {width} {height} x y fits across down =
    let h : y ≤ height - 1 = omega arith in
    omega (arith, mul-le-mul_right pitch h)
