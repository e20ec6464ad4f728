-- What follows from the numbers of a shape that are not refused. Assumes nothing.
use mathlib.Core.Path.{◌≡◌, refl, ap, ◌∙◌}
use mathlib.Core.Bool.{Bool, true, false, cond}
use Prim.Native.Nat.{ℕ, zero, suc, ◌*◌, ◌/◌, ◌≤◌}
use native.Mathlib.Nat.{div-one, div-le_self, mul-one, le-div_iff_mul-le}
use native.Mathlib.Omega.{arith}
use borrow.Author.Tests.{eq-eqb}
use lib.Dec.{eqb}
use Rattle.laws.proofs.Accepted.{part_in}
use Rattle.layer_lookup.specs.Side.{IsSide}
use Rattle.layer_lent.specs.declared.Plan.{Plan}
use Rattle.layer_lent.specs.declared.Shape.{Shape}
use Rattle.layer_lent.specs.Lent.{plan_of, ratio_of, Formed, Planned}

-- a plan's ratio is its shape's
pub span_is : (p : Plan) → Planned p → p.span ≡ ratio_of p.shape
span_is p h = ap (λ (q : Plan). q.span) h.is

-- luma has one pixel for each, so a plane with more is not luma
pub one_of : (p : Plan) → Planned p → p.shape.plane ≡ 0 → p.span ≡ 1
one_of p h luma = span_is p h ∙ simp (eq-eqb p.shape.plane 0 luma)

-- the plane's ratio: 1, or the layer's
span_in : (b : Bool) (r : ℕ) → (1 ≤ r) × (r ≤ 4) → (1 ≤ cond b 1 r) × (cond b 1 r ≤ 4)
span_in true r h = omega arith
span_in false r h = h

span_power : (b : Bool) (r : ℕ) → (r ≡ 3 → ⊥) → cond b 1 r ≡ 3 → ⊥
span_power true r h e = omega arith
span_power false r h e = h e

size_in : (b : Bool) (n r : ℕ) → (1 ≤ n) × (n ≤ 4096) → n / r * r ≡ n → (1 ≤ n / cond b 1 r) × (n / cond b 1 r ≤ 4096)
size_in true n r h e = rw (div-one n) h
size_in false n r h e = part_in n r h e

whole_in : (b : Bool) (n r : ℕ) → n / r * r ≡ n → n / cond b 1 r * cond b 1 r ≡ n
whole_in true n r e = rw (div-one n, mul-one n)
whole_in false n r e = e

side_in : (b : Bool) (r : ℕ) → (1 ≤ r) × (r ≤ 4) → (2 ≤ 8 / cond b 1 r) × (8 / cond b 1 r ≤ 8)
side_in b r h = let s = span_in b r h in ((le-div_iff_mul-le {k = cond b 1 r} {x = 2} {y = 8} s.0).1 (omega arith), div-le_self 8 (cond b 1 r))

is_side : (b : Bool) (r : ℕ) → (1 ≤ r) × (r ≤ 4) → IsSide (8 / cond b 1 r)
is_side b r h eight four = go (cond b 1 r) (span_in b r h) eight four
  where
    go : (n : ℕ) → (1 ≤ n) × (n ≤ 4) → (8 / n ≡ 8 → ⊥) → (8 / n ≡ 4 → ⊥) → 8 / n ≡ 2
    go zero h e f = absurd (omega arith)
    go (suc zero) h e f = absurd (e refl)
    go (suc (suc zero)) h e f = absurd (f refl)
    go (suc (suc (suc zero))) h e f = refl
    go (suc (suc (suc (suc zero)))) h e f = refl
    go (suc (suc (suc (suc (suc n))))) h e f = absurd (omega arith)

pub planned_in : (s : Shape) → Formed s → Planned (plan_of s)
planned_in s f =
    let luma : Bool = eqb s.plane 0 in
    record {
      formed = f;
      is = refl;
      span = span_in luma s.ratio f.ratio;
      power = span_power luma s.ratio f.power;
      wide = size_in luma s.width s.ratio f.wide f.whole_across;
      tall = size_in luma s.height s.ratio f.tall f.whole_down;
      whole_across = whole_in luma s.width s.ratio f.whole_across;
      whole_down = whole_in luma s.height s.ratio f.whole_down;
      low = div-le_self s.height s.ratio;
      cell = is_side luma s.ratio f.ratio;
      small = side_in luma s.ratio f.ratio;
    }
