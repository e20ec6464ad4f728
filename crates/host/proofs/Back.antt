-- A motion's numbers are read back from their bits. Assumes nothing.
use mathlib.Core.Path.{◌≡◌}
use mathlib.Core.List.{List}
use Prim.Native.Nat.{ℕ}
use lib.IntN.{ℤ}
use mir.Syntax.{w32}
use mir.Val.{to_z, of_z, SFits}
use mir.Facts.{to_z-of_z}
use Rattle.rules.specs.declared.Walked.{Walked}
use Rattle.rules.specs.Forms.{Motion, Slot}
use Rattle.rules.specs.Calls.{WalkPairCall}
use Rattle.calls.specs.Lent.{motion_by}
use Rattle.told.specs.Told.{PairTold}

-- a number from its 32 bits
abbrev pub again : ℤ → ℤ
again z = to_z w32 (of_z w32 z)

pub read_back : (forward_x forward_y backward_x backward_y : List ℕ) (grid_width grid_height : ℕ) {block_width block_height origin_x origin_y pel : ℤ}
    → SFits w32 block_width → SFits w32 block_height → SFits w32 origin_x → SFits w32 origin_y → SFits w32 pel
    → motion_by forward_x forward_y backward_x backward_y grid_width grid_height (again block_width) (again block_height) (again origin_x) (again origin_y) (again pel)
    ≡ motion_by forward_x forward_y backward_x backward_y grid_width grid_height block_width block_height origin_x origin_y pel
read_back fx fy bx by gw gh a b c d e = rw (to_z-of_z a, to_z-of_z b, to_z-of_z c, to_z-of_z d, to_z-of_z e)

-- a pair that a walk is handed, with another name of its motion
pub handed_by_motion : (c : WalkPairCall) (m : Motion) {slots : List Slot} {r : Walked} → c.pair.motion ≡ m → PairTold c slots r
    → PairTold (record { walk = c.walk; slots = c.slots; number = c.number; pair = record { first = c.pair.first; second = c.pair.second; motion = m } }) slots r
handed_by_motion c m e d = rw (← e) d
