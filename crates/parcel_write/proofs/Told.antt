-- A call that is not refused. Assumes nothing.
use mathlib.Core.Path.{◌≡◌, refl, sym}
use mathlib.Core.Bool.{Bool, true, false, not, cond}
use mathlib.Core.List.{List, [], ◌∷◌}
use Prim.Native.Nat.{ℕ}
use borrow.Author.Tests.{eqb-true}
use native.Mathlib.Omega.{arith}
use lib.Dec.{eqb}
use lib.ListN.{length}
use Rattle.rules.specs.Domain.{parcel_length}
use Rattle.rules.specs.Refusals.{◌unless◌, parcel_write_refusal, first_fitting}
use Rattle.plane.specs.Slices.{slice}
use Rattle.layer_lent.specs.declared.Shape.{Shape}
use Rattle.layer_lent.specs.Lent.{Numbers}
use Rattle.layer_refuse.proofs.Accepted.{accepted}
use Rattle.parcel_write.specs.Write.{write_by, Fitting}

-- it does not fit
none_other : (right : Bool) → ◌≡◌ {A = ℕ} (cond (not right) 4 0) 0 → right ≡ true
none_other true e = refl
none_other false e = absurd (omega arith)

-- a call that no row refuses
pub fitting : (s : Shape) (numbers : Numbers) (parcel : List ℕ) → s.plane ≡ 0 → 0 ≡ parcel_write_refusal (write_by s (slice numbers) parcel) → Fitting s numbers × (length parcel ≡ parcel_length (s.width, s.height) s.ratio)
unfolding parcel_write_refusal first_fitting
fitting s numbers parcel luma e =
    let right = eqb (length parcel) (parcel_length (s.width, s.height) s.ratio) in
    let a = accepted s (slice numbers) [] ((4 unless right) ∷ []) (rw luma (sym e)) in
    (record { formed = a.sound.planned.formed; luma_long = a.sound.luma_long; first_long = a.sound.first_long; second_long = a.sound.second_long }, eqb-true _ _ (none_other right a.more))
