-- What spares work at most pixels: gaps of at most 16, and sides that are alike. Assumes nothing.
use mathlib.Core.Path.{◌≡◌, refl}
use mathlib.Core.Bool.{Bool, true, false, cond, not, ◌&&◌}
use lib.Dec.{T}
use lib.Ieee.{Float, lt, le, is_nan, of_bits}
use Rattle.rules.specs.declared.Moved.{Moved}
use Rattle.rules.specs.declared.Scene.TheVariants.{Lifted}
use Rattle.rules.specs.Literals.{1·0, 16·0}
use Rattle.rules.specs.Float.{◌⊕◌, ◌⊖◌, abs}
use Rattle.rules.specs.Scene.{value, is_lifted}
use Rattle.rules.specs.Render.{margin, exchanged}
use Rattle.laws.proofs.Order.{le_trans_float, not_lt_of_le}
use Rattle.laws.proofs.Value.{T_of}
use Rattle.float.proofs.Index.{max_right}
use Rattle.render_choice.specs.Kept.{is_within}

no : (b : Bool) → (T b → ⊥) → true ≡ not b
no true f = absurd (f tt)
no false f = refl

sixteen : T (not (is_nan 16·0))
unfolding is_nan of_bits
sixteen = tt

-- a gap of at most 16 is within any reach
pub near_within : (gap reach : Float) → le gap 16·0 ≡ true → true ≡ is_within gap reach
near_within gap reach t =
    no (lt (margin reach) gap)
    (not_lt_of_le gap (margin reach) (le_trans_float gap 16·0 (margin reach) (T_of _ t) (max_right (reach ⊕ 1·0) 16·0 sixteen)))

-- where the layer is on at both sides or at none, nothing is exchanged
pub alike_is : (mine other : Moved) (gap : Float) → mine.on ≡ other.on → exchanged mine other gap ≡ mine.scene
unfolding exchanged
alike_is mine other gap = go mine.on other.on
  where
    go : (a b : Bool) → a ≡ b
        → cond (a && not b && is_lifted mine.scene && is_lifted other.scene && lt (abs (mine.raw ⊖ value other.scene)) gap) (Lifted mine.raw) mine.scene
        ≡ mine.scene
    go true true t = refl
    go true false t = cc
    go false b t = refl
