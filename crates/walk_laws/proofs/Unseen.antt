-- "0 marks an absent neighbour, whose slices aren't looked at": fits that differ in such slices alone are the same.
-- Assumes nothing.
use mathlib.Core.Path.{◌≡◌, refl, ◌∙◌}
use Prim.Native.Nat.{ℕ}
use mathlib.Core.Bool.{Bool}
use lib.Ieee.{Float}
use Rattle.rules.specs.declared.Found.{Found}
use Rattle.rules.specs.declared.Found.TheVariants.{At, Nothing}
use Rattle.rules.specs.declared.Trial.TheVariants.{All, PreviousOwn, OwnNext}
use Rattle.rules.specs.Forms.{Slot, Part, Parts, part, area}
use Rattle.rules.specs.Calls.{FitCall}
use Rattle.rules.specs.Refusals.{fit_refusal}
use Rattle.rules.specs.Window.{total, tried, best, own_same, pick, window, chroma_offset, fitted}
use Rattle.rules.specs.Fit.{rough, fit_models, fit_cover, fit_leaves}
use Rattle.calls.specs.Lent.{parts_of, fit_call}
use Rattle.laws.proofs.Lists.{table_same}

-- a call of other parts
abbrev pub of : FitCall → Parts → FitCall
of c parts = fit_call parts c.size.0 c.size.1 c.ratio c.limit c.evidence c.strict c.models c.kept c.cover c.output

-- what two fits do not tell apart
pub record Alike (c d : FitCall) : Type 0 where
  pub refusal : fit_refusal c ≡ fit_refusal d
  pub layer : fit_leaves c ≡ fit_leaves d

pub alike_trans : {a b c : FitCall} → Alike a b → Alike b c → Alike a c
alike_trans p q = record { refusal = p.refusal ∙ q.refusal; layer = p.layer ∙ q.layer }

module _ (c : FitCall) (p q : Parts)
    (refusal : fit_refusal (of c p) ≡ fit_refusal (of c q))
    (found : (at : ℕ) (limit evidence : Float) (strict : Bool) → window p at limit evidence strict ≡ window q at limit evidence strict)
    (fits : (spot : ℕ) (f : Found) → fitted p spot f ≡ fitted q spot f) where
  same_rough : rough (of c p) ≡ rough (of c q)
  unfolding rough
  same_rough = table_same (area c.size) _ _ (λ at h. rw (found at _ c.evidence c.strict) (fits _ _))

  by_rough : Alike (of c p) (of c q)
  unfolding fit_leaves fit_models fit_cover
  by_rough = record { refusal = refusal; layer = rw (refusal, same_rough) }

-- an absent previous part
pub previous_unseen : (c : FitCall) (s s' : Slot) (own next : Part) → Alike (of c (parts_of (part s 0) own next)) (of c (parts_of (part s' 0) own next))
unfolding fit_refusal window pick best tried total own_same fitted chroma_offset
previous_unseen c s s' own next = by_rough c p q refl (λ at limit evidence strict. refl) fits
  where
    p : Parts
    p = parts_of (part s 0) own next

    q : Parts
    q = parts_of (part s' 0) own next

    fits : (spot : ℕ) (f : Found) → fitted p spot f ≡ fitted q spot f
    fits spot (At m All) = refl
    fits spot (At m PreviousOwn) = refl
    fits spot (At m OwnNext) = refl
    fits spot Nothing = refl

-- and an absent next one
pub next_unseen : (c : FitCall) (s s' : Slot) (previous own : Part) → Alike (of c (parts_of previous own (part s 0))) (of c (parts_of previous own (part s' 0)))
unfolding fit_refusal window pick best tried total own_same fitted chroma_offset
next_unseen c s s' previous own = by_rough c p q refl (λ at limit evidence strict. refl) fits
  where
    p : Parts
    p = parts_of previous own (part s 0)

    q : Parts
    q = parts_of previous own (part s' 0)

    fits : (spot : ℕ) (f : Found) → fitted p spot f ≡ fitted q spot f
    fits spot (At m All) = refl
    fits spot (At m PreviousOwn) = refl
    fits spot (At m OwnNext) = refl
    fits spot Nothing = refl
