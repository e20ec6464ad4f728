-- Bytes weighed by a mask: the sums fit, and a full sum keeps the byte that was made. Assumes nothing.
use mathlib.Core.Path.{◌≡◌}
use Prim.Native.Nat.{ℕ, ◌+◌, ◌-◌, ◌*◌, ◌/◌, ◌≤◌, ◌<◌}
use native.Mathlib.Nat.{mul-zero, mul-add-div_right, div-eq_of_lt}
use native.Mathlib.Omega.{arith}
use Rattle.rules.specs.Still.{weighed}

-- a full sum keeps the byte that was made
pub whole : (kept made full : ℕ) → 1 ≤ full → weighed kept made full full ≡ made
unfolding weighed
whole kept made full some =
    let p : 0 < full = omega arith in
    let z : full - full ≡ 0 = omega arith in
    let n : made * full + full / 2 ≡ kept * 0 + made * full + full / 2 = omega (arith, mul-zero kept) in
    let half : full / 2 < full = omega arith in
    rw (z, ← n, mul-add-div_right p made (full / 2), div-eq_of_lt half) (omega arith)
