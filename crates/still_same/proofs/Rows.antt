-- The pixels that a pixel of a plane is held against. Assumes nothing.
use mathlib.Core.Path.{◌≡◌}
use mathlib.Core.Bool.{cond}
use Prim.Native.Nat.{ℕ}
use Rattle.rules.specs.Forms.{Plane}
use Rattle.rules.specs.Calls.{Settings}
use Rattle.rules.specs.Reading.{after}
use Rattle.rules.specs.Still.{detail, same_at}
use Rattle.still_same.specs.Same.{detail_by, same_by, same_bit}

-- they are those that the definition reads
pub same_here : (first second : Plane) (size : ℕ × ℕ) (s : Settings) (x right y below : ℕ) → right ≡ after x size.0 → below ≡ after y size.1
    → cond (same_by first second s x right y below) 1 0 ≡ same_bit first second size s x y
unfolding same_at detail same_by detail_by
same_here first second size s x right y below a b = rw (a, b)
