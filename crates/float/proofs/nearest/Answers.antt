-- `float::nearest` meets its contract: x + x is exact, and half of it, cut with one more, is x rounded away. Assumes
-- nothing.
use mathlib.Core.Path.{sym, subst, ap, ◌∙◌}
use Prim.Native.Nat.{ℕ, ◌+◌, ◌/◌}
use native.Mathlib.Omega.{arith}
use lib.Dec.{T}
use Rattle.float.proofs.Half.{halved}
use Rattle.float.proofs.nearest.Goals as goal

pub cut_low-requires : goal.cut_low-requires
cut_low-requires c = record {
  unsigned = (halved c.args.x (subst T (sym c.well_formed.0.1) tt) c.requires.above c.requires.low).sign;
  low = (halved c.args.x (subst T (sym c.well_formed.0.1) tt) c.requires.above c.requires.low).under;
}

pub overflow_add-result : goal.overflow_add-result
overflow_add-result c =
    let small = (halved c.args.x (subst T (sym c.well_formed.0.1) tt) c.requires.above c.requires.low).small in
    omega (arith, c.cut_low.ensures)

pub returns : goal.returns
returns c = ap (λ (z : ℕ). (z + 1) / 2) c.cut_low.ensures ∙ (halved c.args.x (subst T (sym c.well_formed.0.1) tt) c.requires.above c.requires.low).is
