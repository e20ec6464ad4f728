-- Two samples are far apart where their difference, or what it is with the other sign, is above 24.
-- Assumes nothing.
use mathlib.Core.Path.{◌≡◌, refl, ◌∙◌}
use mathlib.Core.Bool.{Bool, true, false, cond}
use Prim.Native.Nat.{◌+◌}
use native.Mathlib.Nat.{add-zero, zero-add}
use mir.Val.{bool_byte}
use lib.Ieee.{Float, nan, inf, fin, lt, neg, of_bits}
use Rattle.rules.specs.Literals.{24·0}
use Rattle.rules.specs.Float.{abs}

byte : (b : Bool) → bool_byte b ≡ cond b 1 0
byte true = refl
byte false = refl

pub both_signs : (d : Float) → bool_byte (lt 24·0 d) + bool_byte (lt 24·0 (neg d)) ≡ cond (lt 24·0 (abs d)) 1 0
unfolding lt neg abs of_bits
both_signs nan = refl
both_signs (inf true) = refl
both_signs (inf false) = refl
both_signs (fin true m e) = zero-add _ ∙ byte _
both_signs (fin false m e) = add-zero _ ∙ byte _
