-- The cells of a layer: a mark is a 0, one mark is enough, and an accepted layer has all its rows of cells. Assumes
-- nothing.
use mathlib.Core.Path.{◌≡◌, refl, ap, ◌∙◌}
use mathlib.Core.Bool.{Bool, true, false, not, ◌&&◌}
use mathlib.Core.Logic.{⊎_elim}
use mathlib.Core.List.{[]}
use Prim.Native.Nat.{ℕ, zero, suc, ◌-◌, ◌^◌, ◌<◌, min}
use native.Mathlib.Nat.{eq-or-lt_of_le}
use native.Mathlib.Omega.{arith}
use borrow.Author.Tests.{ne_eqb}
use lib.Dec.{eqb}
use lib.IntN.{ℤ, pos, negsuc}
use lib.Signed.{mag}
use mir.Syntax.{w16}
use Rattle.std.specs.Int.{cast_unsigned}
use Rattle.rules.specs.Forms.{turns, all, cells, is_number}
use Rattle.rules.specs.Refusals.{empty_refusal}
use Rattle.laws.proofs.Accepted.{cells_in}
use Rattle.layer_lent.specs.declared.Shape.{Shape}
use Rattle.layer_lent.specs.Lent.{lay, plan_of, Sound, Held}
use Rattle.layer_refuse.proofs.Accepted.{accepted}
use Rattle.empty.specs.Marks.{InRows}

-- a number without its sign is 0 where the number is
is_zero : (z : ℤ) → mag z < 2 ^ 15 → eqb (cast_unsigned w16 z) 0 ≡ is_number z 0
is_zero (pos n) small = refl
is_zero (negsuc n) small = ne_eqb (65536 - suc n) 0 (λ e. omega arith)

-- the lesser of two is 0 where one of them is
least : (a b : ℕ) → not (eqb (min a b) 0) ≡ (not (eqb a 0) && not (eqb b 0))
least zero b = let e : min 0 b ≡ 0 = omega arith in rw e refl
least (suc a) zero = let e : min (suc a) 0 ≡ 0 = omega arith in rw (e, ne_eqb (suc a) 0 (λ f. omega arith)) refl
least (suc a) (suc b) =
    simp (ne_eqb (min (suc a) (suc b)) 0 (λ e. omega (arith, e)), ne_eqb (suc a) 0 (λ e. omega arith), ne_eqb (suc b) 0 (λ e. omega arith))

-- one number more of a row
pub least_more : (a : ℕ) (z : ℤ) → mag z < 2 ^ 15 → not (eqb (min a (cast_unsigned w16 z)) 0) ≡ (not (eqb a 0) && not (is_number z 0))
least_more a z small = least a (cast_unsigned w16 z) ∙ ap (λ b. not (eqb a 0) && not b) (is_zero z small)

-- one that fails is enough
pub all_false : (n k : ℕ) (test : ℕ → Bool) → k < n → test k ≡ false → all n test ≡ false
unfolding turns all
all_false zero k test below e = absurd (omega arith)
all_false (suc n) k test below e =
    ⊎_elim
    (λ (same : k ≡ n). ap (λ (b : Bool). all n test && b) (rw same at e) ∙ and_false (all n test))
    (λ (less : k < n). ap (λ (b : Bool). b && test n) (all_false n k test less e))
    (eq-or-lt_of_le {n = k} {m = n} (omega arith))
  where
    and_false : (b : Bool) → (b && false) ≡ false
    and_false true = refl
    and_false false = refl

-- the rows of cells of a layer that is not refused, which can be read
pub in_rows : (s : Shape) (held : Held) → s.plane ≡ 0 → empty_refusal (lay s held) ≡ 0 → Sound (plan_of s) held × InRows (plan_of s) (cells s.width) (cells s.height)
unfolding empty_refusal
in_rows s held luma e =
    let sound = (accepted s held [] [] (rw luma e)).sound in
    let f = sound.planned.formed in
    let w = cells_in s.width s.ratio f.ratio.1 f.whole_across in
    let pitch = f.chroma_pitch in
    (sound, record { wide = omega arith; tall = cells_in s.height s.ratio f.ratio.1 f.whole_down })
