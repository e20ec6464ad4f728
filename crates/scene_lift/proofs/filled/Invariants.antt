-- The invariant of `scene_lift::filled`: what is filled is the mean of the first ring from here on that has any.
use mathlib.Core.Path.{◌≡◌}
use Prim.Native.Nat.{ℕ, ◌-◌}
use Rattle.rules.specs.declared.Ring.{Ring}
use Rattle.rules.specs.declared.Scene.TheVariants.{Raw}
use Rattle.scene_lift.specs.Means.{means, Makes}
use Rattle.scene_lift.proofs.filled.Given as goal

abbrev pub invariant-loop-times : goal.invariant-loop-times
invariant-loop-times g l =
    (rings : ℕ → Ring) → Makes (λ n r. g.F.Fn.post l.ring (n, tt) r) rings
    → means rings 3 (Raw l.value) ≡ means rings (4 - l.times) (Raw l.value)
