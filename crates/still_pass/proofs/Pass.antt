-- A pass that stores each pixel leaves what its rule paints; a call is refused, or runs. Assumes nothing.
use mathlib.Core.Path.{◌≡◌, refl, sym, ap, ◌∙◌}
use mathlib.Core.Bool.{Bool, true, false, cond}
use mathlib.Core.List.{List}
use Prim.Native.Nat.{ℕ, ◌+◌, ◌*◌}
use native.Mathlib.Numerals.{add-one}
use lib.ListN.{get_or, set}
use lib.Seq.{set-get_or}
use Rattle.rules.specs.Forms.{Rule, turns, scan_row, scan, stroke, painted, leaves}
use Rattle.rules.specs.Refusals.{number_of}
use Rattle.rules.specs.declared.Refusal.{Refusal}
use Rattle.std.specs.Prelude.{Ok, Err}
use Rattle.laws.proofs.Answered.{stays, goes}
use Rattle.calls.specs.Lent.{plane_of}
use Rattle.still_pass.specs.Pass.{put, RowScanned, RowsScanned, RowPainted, RowsPainted, Passed}

-- a pixel that the rule does not write is stored as it was
put-stroke : (rule : Rule) (pitch x y : ℕ) (bytes : List ℕ)
    → set bytes (y * pitch + x) (put rule x y (get_or bytes (y * pitch + x) 0)) ≡ stroke rule pitch x y bytes
unfolding put stroke
put-stroke rule pitch x y bytes = go (rule.writes x y) (rule.byte x y (get_or bytes (y * pitch + x) 0))
  where
    go : (b : Bool) (v : ℕ) → set bytes (y * pitch + x) (cond b v (get_or bytes (y * pitch + x) 0)) ≡ cond b (set bytes (y * pitch + x) v) bytes
    go true v = refl
    go false v = set-get_or bytes (y * pitch + x) 0

-- no pixel yet, and no row
module _ {A : Type 0} (step : (x y : ℕ) → A → A) where
  pub row_none : (y : ℕ) (start : A) → RowScanned step y 0 start start
  unfolding turns scan_row
  row_none y start = record { done = refl }

  pub rows_none : (width : ℕ) (start : A) → RowsScanned step width 0 start start
  unfolding turns scan
  rows_none width start = record { done = refl }

-- one row more
pub rows_more : {A : Type 0} {step : (x y : ℕ) → A → A} {width y : ℕ} {before list after : A}
    → RowsScanned step width y before list → RowScanned step y width list after → RowsScanned step width (y + 1) before after
unfolding turns scan
rows_more so row = record { done = simp (row.done, so.done, add-one) }

-- one pixel more
pub row_more : (rule : Rule) (pitch : ℕ) {y x : ℕ} {before bytes : List ℕ} (b : ℕ) → RowPainted rule pitch y x before bytes
    → b ≡ put rule x y (get_or bytes (y * pitch + x) 0) → RowPainted rule pitch y (x + 1) before (set bytes (y * pitch + x) b)
unfolding turns scan_row
row_more rule pitch {y} {x} {bytes = bytes} b so e =
    record { done = ap (λ (v : ℕ). set bytes (y * pitch + x) v) e ∙ put-stroke rule pitch x y bytes ∙ simp (so.done, add-one) }

-- all rows are the plane that the rule paints
pub painted_is : (rule : Rule) (pitch : ℕ) {width height : ℕ} {before after : List ℕ} → RowsPainted rule pitch width height before after
    → after ≡ painted rule (width, height) (plane_of before pitch)
unfolding painted
painted_is rule pitch so = so.done

-- ---- a call, by its number

module _ (number : ℕ) (new old : List ℕ) where
  pub refused : (r : Refusal) → number_of r ≡ number → Passed number (leaves number new old) old (Err r)
  refused r e = record { answer = e; bytes = sym (stays r number new old e) }

  pub ran : (output : List ℕ) → 0 ≡ number → output ≡ new → Passed number (leaves number new old) output (Ok tt)
  ran output z done = record { answer = z; bytes = done ∙ sym (goes number new old z) }
