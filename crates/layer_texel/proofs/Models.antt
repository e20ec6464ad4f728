-- A pixel's model, of its stored numbers, is its texel. Assumes nothing.
use mathlib.Core.Path.{◌≡◌, sym}
use mathlib.Core.List.{List}
use Prim.Native.Nat.{ℕ}
use borrow.Author.Tests.{ne_eqb}
use lib.IntN.{ℤ}
use lib.Ieee.{Float}
use Rattle.rules.specs.declared.Model.{Model}
use Rattle.rules.specs.Float.{signed}
use Rattle.rules.specs.Reading.{stored_chroma, chroma_texel, texel}
use Rattle.layer_lent.specs.declared.Plan.{Plan}
use Rattle.layer_lent.specs.Lent.{holding}
use Rattle.layer_numbers.specs.Stored.{Summed}

same_model : (gain offset : Float) (m : Model) → gain ≡ m.gain → offset ≡ m.offset → record { gain = gain; offset = offset } ≡ m
same_model gain offset m g o = rw (g, o)

pub chroma_is : (p : Plan) (luma first second : List ℤ) (x y n : ℕ) (total : ℤ) → Summed p luma x y total → p.span ≡ n → (p.shape.plane ≡ 0 → ⊥)
    → let l = holding p.shape luma first second in
    chroma_texel n (signed total) (stored_chroma l p.shape.plane x y) ≡ texel l p.shape.plane x y
unfolding texel chroma_texel
chroma_is p luma first second x y n total sum span some =
    same_model _ _ _ (rw (← span) (sym (sum.is first second))) (sym (simp (ne_eqb _ _ some)))
