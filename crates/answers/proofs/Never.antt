-- Each table's numbers, row by row. Assumes nothing.
use mathlib.Core.Path.{◌≡◌, refl}
use mathlib.Core.Bool.{Bool, true, not, ◌&&◌}
use Prim.Native.Nat.{ℕ, ◌+◌, ◌*◌}
use native.Mathlib.Omega.{arith}
use borrow.Author.Tests.{leb-true, eqb-false, not-true}
use lib.Dec.{leb, eqb}
use Rattle.std.proofs.lemmas.Bool.{and_parts}
use Rattle.rules.specs.Forms.{each}
use Rattle.rules.specs.Refusals.{Table, first_fitting, stats_refusal, fit_refusal, assemble_refusal, distances_refusal, empty_refusal, peel_refusal, unpeel_refusal, render_refusal, parcel_write_refusal, mask_refusal, apply_refusal, hold_refusal}
use Rattle.rules.specs.Parcel.{parcel_read_refusal, parcel_sizes_refusal}
use Rattle.rules.specs.Walk.{walk_start_refusal, walk_pair_refusal, walk_layer_refusal}
use Rattle.laws.proofs.Accepted.{number_passes}
use Rattle.answers.specs.Never.{Other, NeverEight, NotAnswered}

is_other : ℕ → Bool
is_other n = not (eqb n 8) && leb n 255

-- a table with such numbers alone
by_rows : (t : Table) → each (λ row. is_other row.0) t ≡ true → Other (first_fitting t)
unfolding is_other
by_rows t e =
    let s = and_parts (not (eqb (first_fitting t) 8)) (leb (first_fitting t) 255) (number_passes is_other t refl e) in
    record { other = eqb-false _ _ (not-true _ s.0); byte = leb-true _ _ s.1 }

pub never_eight : NeverEight
unfolding each is_other stats_refusal fit_refusal distances_refusal assemble_refusal peel_refusal unpeel_refusal render_refusal empty_refusal mask_refusal apply_refusal hold_refusal parcel_write_refusal parcel_read_refusal parcel_sizes_refusal walk_start_refusal walk_pair_refusal walk_layer_refusal
never_eight =
    record {
      stats = λ c. by_rows _ refl;
      fit = λ c. by_rows _ refl;
      distances = λ c. by_rows _ refl;
      assemble = λ c. by_rows _ refl;
      peel = λ c. by_rows _ refl;
      unpeel = λ c. by_rows _ refl;
      render = λ c. by_rows _ refl;
      empty = λ l. by_rows _ refl;
      mask = λ c. by_rows _ refl;
      apply = λ c. by_rows _ refl;
      hold = λ c. by_rows _ refl;
      parcel_write = λ c. by_rows _ refl;
      parcel_read = λ c. by_rows _ refl;
      parcel_sizes = λ parcel. by_rows _ refl;
      walk_start = λ size ratio. by_rows _ refl;
      walk_pair = λ c. by_rows _ refl;
      walk_layer = λ c. by_rows _ refl;
    }

-- an answer with such a number, by any count
pub not_answered : (count n r : ℕ) → Other n → r ≡ count * 256 + n → NotAnswered r
not_answered count n r o e f = o.other (omega (arith, o.byte))
