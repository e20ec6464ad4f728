-- What is stored of a model, and sums of it, as signed numbers in bits. Assumes nothing.
use mathlib.Core.Path.{◌≡◌, ◌∙◌}
use mathlib.Core.List.{List}
use Prim.Native.Nat.{ℕ, zero, suc, ◌+◌, ◌*◌, ◌≤◌, ◌<◌, ◌^◌}
use native.Mathlib.Numerals.{add-one}
use native.Mathlib.Omega.{arith}
use lib.IntN.{ℤ, nat_abs, ◌+ℤ◌}
use lib.Signed.{mag}
use lib.ListN.{get_or}
use lib.Ieee.{Float, nan}
use mir.Syntax.{w16, w32}
use mir.Val.{to_z, of_z, hbits, SFits}
use mir.ValLaws.{to_z-of_z}
use Rattle.rules.specs.Forms.{turns}
use Rattle.rules.specs.Literals.{64·0}
use Rattle.rules.specs.Float.{◌⊘◌, stored}
use Rattle.rules.specs.Assembly.{stored_total}
use Rattle.laws.proofs.Points.{stored_small, total_small}
use Rattle.laws.proofs.Signed.{back, fits, again, sum_size}
use Rattle.assemble_offsets.specs.Sizes.{term_of, row_total}

pub stored_back : (value scale : Float) → to_z w16 (of_z w16 (stored value scale)) ≡ stored value scale
stored_back value scale = again w16 (stored value scale) (omega (arith, stored_small value scale))

pub total_back : (total : ℤ) → to_z w16 (of_z w16 (stored_total total).0) ≡ (stored_total total).0
total_back total = back w16 (stored_total total).0 (total_small total)

-- ---- a sum of some stored offsets

pub term_size : (models : List Float) (plane : ℕ) (share : Float) (at : ℕ) → nat_abs (term_of models plane share at) ≤ 32767
unfolding term_of
term_size models plane share at = stored_small (get_or models (at * 4 + (1 + plane)) nan ⊘ share) 64·0

pub row_size : (models : List Float) (plane : ℕ) (share : Float) (place n : ℕ) (t : ℤ)
    → nat_abs (row_total models plane share place n t) ≤ nat_abs t + n * 32767
unfolding turns row_total
row_size models plane share place zero t = omega arith
row_size models plane share place (suc n) t =
    omega (arith, row_size models plane share place n t, term_size models plane share (place + n), sum_size (row_total models plane share place n t) (term_of models plane share (place + n)))

-- a term more, r, added to a total that the program holds as bits
module _ (models : List Float) (plane : ℕ) (share : Float) (place n : ℕ) (total : ℤ) (t : ℕ) (r : ℤ)
    (e : to_z w32 t ≡ row_total models plane share place n total) (f : r ≡ term_of models plane share (place + n)) (ok : mag r < 2 ^ hbits w32)
    (few : nat_abs total ≤ 524288) (small : n < 4) where
  more : to_z w32 t +ℤ to_z w32 (of_z w32 r) ≡ row_total models plane share place (n + 1) total
  unfolding turns row_total
  more = rw (back w32 r ok, e, f, add-one)

  pub row_fits : SFits w32 (to_z w32 t +ℤ to_z w32 (of_z w32 r))
  row_fits = rw more (fits w32 _ (omega (arith, row_size models plane share place (n + 1) total)))

  pub row_more : to_z w32 (of_z w32 (to_z w32 t +ℤ to_z w32 (of_z w32 r))) ≡ row_total models plane share place (n + 1) total
  row_more = to_z-of_z w32 _ row_fits ∙ more
