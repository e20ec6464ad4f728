-- The laws of a count that goes through a row by stretches. Assumes nothing.
use mathlib.Core.Path.{◌≡◌, refl, sym, ◌∙◌}
use mathlib.Core.Bool.{Bool, true, false, not, cond, ◌&&◌}
use mathlib.Core.List.{List}
use Prim.Native.Nat.{ℕ, zero, suc, ◌+◌, ◌-◌, ◌≤◌, ◌<◌}
use native.Mathlib.Numerals.{add-one}
use native.Mathlib.Omega.{arith}
use lib.IntN.{ℤ}
use mir.Val.{bool_byte}
use Rattle.rules.specs.declared.Model.{Model}
use Rattle.rules.specs.Literals.{0·0, 8·0}
use Rattle.rules.specs.Float.{◌⊖◌, ◌⊗◌, ◌≼◌, signed}
use Rattle.rules.specs.Forms.{Layer, plane_size, turns, scan_row, scan, tally, counted}
use Rattle.rules.specs.Model.{is_plain}
use Rattle.rules.specs.Reading.{distance, gap, texel}
use Rattle.rules.specs.Peel.{layered, peel_rule}
use Rattle.rules.specs.Unpeel.{unpeel_rule}
use Rattle.laws.proofs.Raster.{counted_same}
use Rattle.layer_lent.specs.declared.Shape.{Shape}
use Rattle.layer_lent.specs.Lent.{holding}
use Rattle.lift_pixel.proofs.Peels.{near_writes}
use Rattle.lift_count.specs.Counts.{layered_rule, CountedOn, RowCounted, RowsCounted, Counts}

-- one more, or none
added : (b : Bool) (n : ℕ) → n + bool_byte b ≡ cond b (n + 1) n
added true n = refl
added false n = omega arith

pub one_most : (b : Bool) → bool_byte b ≤ 1
one_most true = omega arith
one_most false = omega arith

module _ {l : Layer} {plane y : ℕ} where
  -- ---- from a column to another

  pub on_none : (from count : ℕ) → CountedOn l plane y from from count count
  on_none from count = record { on = λ start e. e; few = omega arith }

  on_more : {from x count n : ℕ} (written : Bool) → written ≡ layered l plane x y → from ≤ x → CountedOn l plane y from x count n
      → CountedOn l plane y from (x + 1) count (n + bool_byte written)
  unfolding turns scan_row tally
  on_more {x = x} {n = n} written is low done =
      record {
        on = λ start e. added written n ∙ simp (is, done.on start e, add-one);
        few = omega (arith, done.few, one_most written);
      }

  -- a pixel of a near cell
  pub on_near : {from x count n : ℕ} {m : Model} → m ≡ texel l plane x y → (gap l plane x y ≼ 0·0) ≡ true → from ≤ x → CountedOn l plane y from x count n
      → CountedOn l plane y from (x + 1) count (n + bool_byte (not (is_plain m)))
  on_near {x = x} {m = m} model near low done = on_more (not (is_plain m)) (rw model (sym (near_writes l plane x y near))) low done

  -- ---- a row

  pub row_none : (count : ℕ) → RowCounted l plane y 0 count count
  unfolding turns scan_row
  row_none count = record { tally_is = refl; few = omega arith }

  pub row_on : {from to count n r : ℕ} → from ≤ to → RowCounted l plane y from count n → CountedOn l plane y from to n r → RowCounted l plane y to count r
  row_on {count = count} ahead row on = record { tally_is = on.on count row.tally_is; few = omega (arith, row.few, on.few) }

  far_one : {x count n : ℕ} → layered l plane x y ≡ false → RowCounted l plane y x count n → RowCounted l plane y (x + 1) count n
  unfolding turns scan_row tally
  far_one far row = record { tally_is = simp (far, row.tally_is, add-one); few = omega (arith, row.few) }

  far_run : {x count n : ℕ} (more : ℕ) → ((k : ℕ) → x ≤ k → k < x + more → layered l plane k y ≡ false) → RowCounted l plane y x count n
      → RowCounted l plane y (x + more) count n
  far_run {x = x} zero far row = let e : x + 0 ≡ x = omega arith in rw e row
  far_run {x = x} (suc more) far row =
      let e : x + suc more ≡ x + more + 1 = omega arith in
      rw e (far_one (far (x + more) (omega arith) (omega arith)) (far_run more (λ k low high. far k low (omega arith)) row))

  -- pixels that are not written are passed over
  pub row_far : {from to count n : ℕ} → from ≤ to → ((k : ℕ) → from ≤ k → k < to → layered l plane k y ≡ false) → RowCounted l plane y from count n
      → RowCounted l plane y to count n
  row_far {from} {to} ahead far row =
      let e : from + (to - from) ≡ to = omega arith in
      rw e at (far_run (to - from) (λ k low high. far k low (omega arith)) row)

-- ---- a pixel, by its cell and its model

pub layered_is : (s : Shape) (luma first second : List ℤ) (plane x y : ℕ) {near : Bool} {d : ℤ} {m : Model} → d ≡ distance (holding s luma first second) plane x y
    → near ≡ (signed d ⊗ 8·0 ⊖ 8·0 ≼ 0·0) → m ≡ texel (holding s luma first second) plane x y
    → (near && not (is_plain m)) ≡ layered (holding s luma first second) plane x y
unfolding layered gap distance
layered_is s luma first second plane x y is told model = rw (told, is, model)

-- ---- the plane

module _ {l : Layer} {plane width : ℕ} where
  pub rows_none : RowsCounted l plane width 0 0
  unfolding turns scan counted
  rows_none = record { tally_is = refl; few = omega arith }

  pub rows_more : {y n r : ℕ} → width ≤ 4096 → RowsCounted l plane width y n → RowCounted l plane y width n r → RowsCounted l plane width (y + 1) r
  unfolding turns scan counted
  rows_more small rows row = record { tally_is = simp (row.tally_is, rows.tally_is, add-one); few = omega (arith, row.few, rows.few) }

-- peel and unpeel count the pixels that they write alike
pub counts : {l : Layer} {plane width height r : ℕ} → width ≡ (plane_size l plane).0 → height ≡ (plane_size l plane).1 → RowsCounted l plane width height r → Counts l plane r
unfolding peel_rule unpeel_rule
counts {l} {plane} across down rows =
    let size = plane_size l plane in
    let all = rw (across, down) at rows.tally_is in
    record {
      peeled = λ raw. all ∙ counted_same (layered_rule l plane) (peel_rule l plane raw) size (λ x y. refl);
      unpeeled = λ frames. all ∙ counted_same (layered_rule l plane) (unpeel_rule l plane frames) size (λ x y. refl);
    }
