-- What the calls of a walk share: the number of an answer, and nine slices that are as long as their lengths say.
-- Assumes nothing.
use mathlib.Core.Path.{◌≡◌, refl}
use mathlib.Core.Bool.{Bool, true, false, ◌&&◌}
use mathlib.Core.List.{List, [], ◌∷◌}
use Prim.Native.Nat.{ℕ, ◌+◌, ◌*◌}
use native.Mathlib.Omega.{arith}
use lib.ListN.{length}
use lib.Ieee.{Float}
use Rattle.rules.specs.declared.Walk.{Walk}
use Rattle.rules.specs.Forms.{each}
use Rattle.rules.specs.Domain.{are_slots}
use Rattle.rules.specs.Walk.{walk_size}
use Rattle.calls.specs.Lent.{slots_of}
use Rattle.walk_state.specs.Counts.{is_long, are_long}

-- a number as an answer tells it
pub told : (n : ℕ) → n ≡ 0 * 256 + n
told n = omega arith

-- ---- nine slices

joined : (a b c : Bool) → (a && b && c) ≡ (a && (b && (c && true)))
joined true true true = refl
joined true true false = refl
joined true false c = refl
joined false b c = refl

pub by_lengths : (w : Walk) (a b c d e f g h i : List Float)
    → are_long ((length a ∷ length b ∷ length c ∷ []) ∷ (length d ∷ length e ∷ length f ∷ []) ∷ (length g ∷ length h ∷ length i ∷ []) ∷ []) w
    ≡ are_slots (slots_of a b c d e f g h i) (walk_size w) w.ratio
unfolding each
by_lengths w a b c d e f g h i =
    joined (is_long (length a ∷ length b ∷ length c ∷ []) w) (is_long (length d ∷ length e ∷ length f ∷ []) w) (is_long (length g ∷ length h ∷ length i ∷ []) w)
