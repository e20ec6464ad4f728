-- Stored gains are added as whole numbers: their total as a float is the total of the floats. Assumes nothing.
use mathlib.Core.Path.{◌≡◌, refl, sym, ◌∙◌}
use mathlib.Core.List.{List}
use mathlib.Core.Logic.{⊎_elim}
use Prim.Native.Nat.{ℕ, ◌+◌, ◌*◌, ◌^◌, ◌≤◌, ◌<◌}
use native.Mathlib.Nat.{le_trans, eq-or-lt_of_le}
use native.Mathlib.Numerals.{add-one}
use native.Mathlib.Omega.{arith}
use lib.Dec.{lit≤}
use lib.IntN.{ℤ, pos, negsuc, nat_abs, ◌+ℤ◌}
use lib.Signed.{mag, nat_abs-le}
use lib.ListN.{get_or}
use lib.Ieee.{binary32}
use mir.Syntax.{w32}
use mir.Val.{SFits}
use Rattle.rules.specs.Forms.{turns}
use Rattle.laws.proofs.Signed.{sum_size}
use Rattle.laws.proofs.Whole.{zero_is, add_int}
use Rattle.layer_numbers.specs.Stored.{Added, row_total, block_total, RowSummed, BlockSummed}

-- ---- one number more

mag_small : (z : ℤ) → mag z ≤ nat_abs z
mag_small (pos n) = omega arith
mag_small (negsuc n) = omega arith

pub fits_sum : (t e : ℤ) → nat_abs t ≤ 524288 → mag e < 2 ^ 15 → SFits w32 (t +ℤ e)
fits_sum t e h k = record { sfits = omega (arith, sum_size t e, mag_small (t +ℤ e), nat_abs-le e k) }

pub added_is : {luma : List ℤ} {k : ℕ} (total e : ℤ) → nat_abs total ≤ 524288 → mag e < 2 ^ 15 → e ≡ get_or luma k (pos 0) → Added luma k total (total +ℤ e)
added_is total e h small is =
    record {
      is = sym (add_int binary32 total e (le_trans h (lit≤ tt)) (le_trans (nat_abs-le e small) (lit≤ tt))) ∙ rw is;
      small = omega (arith, sum_size total e, nat_abs-le e small);
      number = rw is at (nat_abs-le e small);
    }

-- ---- a row

pub row_none : (luma : List ℤ) (row pitch x span : ℕ) (total : ℤ) → RowSummed luma row pitch x span 0 total total
unfolding turns row_total
row_none luma row pitch x span total = record { is = refl; small = omega arith; number = λ dx below. absurd (omega arith) }

pub row_more : {luma : List ℤ} {row pitch x span n : ℕ} {total t r : ℤ}
    → RowSummed luma row pitch x span n total t → Added luma (row * pitch + (x * span + n)) t r → RowSummed luma row pitch x span (n + 1) total r
unfolding turns row_total
row_more {n = n} done more =
    record {
      is = more.is ∙ rw (done.is, add-one);
      small = omega arith;
      number = λ dx below. ⊎_elim (λ (same : dx ≡ n). rw same more.number) (λ less. done.number dx less) (eq-or-lt_of_le {n = dx} {m = n} (omega arith));
    }

-- ---- a block

pub block_none : (luma : List ℤ) (pitch span x y : ℕ) → BlockSummed luma pitch span x y 0 (pos 0)
unfolding turns block_total
block_none luma pitch span x y = record { is = zero_is; small = omega arith; number = λ dx dy left below. absurd (omega arith) }

pub block_more : {luma : List ℤ} {pitch span x y rows : ℕ} {t r : ℤ} → span ≤ 4 → BlockSummed luma pitch span x y rows t
    → RowSummed luma (y * span + rows) pitch x span span t r → BlockSummed luma pitch span x y (rows + 1) r
unfolding turns block_total
block_more {rows = rows} few done row =
    record {
      is = row.is ∙ rw (done.is, add-one);
      small = omega arith;
      number = λ dx dy left below. ⊎_elim (λ (same : dy ≡ rows). rw same (row.number dx left)) (λ less. done.number dx dy left less) (eq-or-lt_of_le {n = dy} {m = rows} (omega arith));
    }
