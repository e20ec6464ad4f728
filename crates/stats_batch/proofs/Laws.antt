-- Four arrays are filled with steps, pixel by pixel. Assumes nothing.
use mathlib.Core.Path.{◌≡◌, ap}
use mathlib.Core.List.{List}
use Prim.Native.Nat.{ℕ, ◌+◌, ◌<◌}
use lib.ListN.{length, set}
use Rattle.std.proofs.Common.{below_more, arith, get_or-set_other, get_or-set_same, ◌≢◌}
use Rattle.rules.specs.declared.Steps.{Steps}
use Rattle.rules.specs.declared.Taps.{Taps}
use Rattle.rules.specs.Forms.{Motion}
use Rattle.motion.specs.declared.Carried.{Carried}
use Rattle.motion.specs.Moves.{steps_by, Holds}
use Rattle.stats_batch.specs.declared.Shifts.{Shifts}
use Rattle.stats_batch.specs.Lanes.{Lanes, Shifted}

-- one entry more
one_more : {A : Type 0} (none : A) (f : ℕ → A) (l : List A) (k : ℕ) (v : A) → Lanes k none f l → k < length l → v ≡ f k → Lanes (k + 1) none f (set l k v)
one_more none f l k v so_far room is =
    below_more _ _
    (λ j h. let ne : j ≢ k = omega arith in rw get_or-set_other (so_far j h))
    (rw get_or-set_same is)

-- one pixel more
pub steps_more : (m : Motion) (ratio : ℕ) (down : Taps) (x k : ℕ) (r : Shifts) (s : Steps) (next : Carried) → Shifted m ratio down x k r
    → (k < length r.fx) × (k < length r.fy) × (k < length r.bx) × (k < length r.by)
    → s ≡ steps_by m ratio down (x + k) → Holds m ratio down next
    → Shifted m ratio down x (k + 1) (record { fx = set r.fx k s.fx; fy = set r.fy k s.fy; bx = set r.bx k s.bx; by = set r.by k s.by; held = next })
steps_more m ratio down x k r s next so_far room is holds =
    record {
      fx = one_more _ _ r.fx k _ so_far.fx room.0 (ap (λ (z : Steps). z.fx) is);
      fy = one_more _ _ r.fy k _ so_far.fy room.1 (ap (λ (z : Steps). z.fy) is);
      bx = one_more _ _ r.bx k _ so_far.bx room.2 (ap (λ (z : Steps). z.bx) is);
      by = one_more _ _ r.by k _ so_far.by room.3 (ap (λ (z : Steps). z.by) is);
      holds = holds;
    }
