-- A term that is not added may be any. Assumes nothing.
use mathlib.Core.Path.{◌≡◌, refl}
use mathlib.Core.Bool.{Bool, true, false, cond, ◌&&◌}
use lib.Ieee.{Float}
use Rattle.rules.specs.Literals.{0·0}
use Rattle.rules.specs.Float.{◌⊕◌}
use Rattle.rules.specs.Window.{plus}
use Rattle.fit_total.specs.Around.{total_of}

plus_held : (has b : Bool) (total term : Float) → plus (has && b) total (cond b term 0·0) ≡ plus (has && b) total term
plus_held has true total term = refl
plus_held true false total term = refl
plus_held false false total term = refl

pub held : (b d before after : Bool) (p o n : Float)
    → total_of (before && b) (after && d) (cond b p 0·0) o (cond d n 0·0) ≡ total_of (before && b) (after && d) p o n
held b d before after p o n = rw (plus_held before b 0·0 p, plus_held after d (plus (before && b) 0·0 p ⊕ o) n)
