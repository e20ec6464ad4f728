-- What a point adds to a ring, by the test of its gain. Assumes nothing.
use mathlib.Core.Path.{◌≡◌, sym}
use mathlib.Core.Bool.{true, false}
use lib.Ieee.{Float}
use Rattle.rules.specs.declared.Model.{Model}
use Rattle.rules.specs.declared.Ring.{Ring}
use Rattle.rules.specs.declared.Scene.TheVariants.{Lifted}
use Rattle.rules.specs.Literals.{0·2}
use Rattle.rules.specs.Float.{◌≼◌, abs}
use Rattle.rules.specs.Scene.{lift, lifted, gathered}

pub taken : (v : Float) (m : Model) (r : Ring) → (0·2 ≼ abs m.gain) ≡ true → gathered (Lifted (lift v m)) r ≡ gathered (lifted v m) r
unfolding lifted
taken v m r t = sym (simp t)

pub passed : (v : Float) (m : Model) (r : Ring) → (0·2 ≼ abs m.gain) ≡ false → r ≡ gathered (lifted v m) r
unfolding lifted gathered
passed v m r t = sym (simp t)
