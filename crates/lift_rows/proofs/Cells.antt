-- The laws of a row that is gone through cell by cell. Assumes nothing.
use mathlib.Core.Path.{◌≡◌, ap, ◌∙◌}
use mathlib.Core.Bool.{Bool, true, false, not}
use mathlib.Core.Logic.{◌⊎◌, inl, inr}
use mathlib.Core.List.{List}
use Prim.Native.Nat.{ℕ, ◌+◌, ◌-◌, ◌*◌, ◌/◌, ◌≤◌, ◌<◌, min}
use native.Mathlib.Nat.{eq-or-lt_of_le, add-mul, mul-le-mul_right, le-div_iff_mul-le, div-lt_iff_lt-mul}
use Rattle.std.proofs.lemmas.Nat.{div-mul-add}
use native.Mathlib.Omega.{arith}
use lib.ListN.{get_or}
use Rattle.rules.specs.Forms.{Layer, Rule}
use Rattle.rules.specs.Literals.{0·0}
use Rattle.rules.specs.Float.{◌≼◌}
use Rattle.rules.specs.Reading.{distance, gap}
use Rattle.std.specs.Prelude.{Option, Some, None, MatchOption, unwrap_or}
use lib.Dec.{eqb}
use Rattle.plane.specs.Done.{change, Stamped}
use Rattle.plane.proofs.Laws.{tallied_few, row_more, row_skip_run}
use Rattle.layer_lent.specs.declared.Plan.{Plan}
use Rattle.layer_lent.specs.Lent.{lay, ratio_of, Planned, Held}
use Rattle.layer_cell.specs.Cells.{CellInside}
use Rattle.layer_cell.proofs.Ends.{cell_in}
use Rattle.lift_rows.specs.Rows.{RowOn}
use Rattle.lift_rows.specs.Stretches.{near_cell, Cells, FirstAt, First, cells_of, column}

-- ---- from a column to another

pub run_none : (rule : Rule) (pitch y from count : ℕ) (bytes : List ℕ) → RowOn rule pitch y from from count bytes bytes count
run_none rule pitch y from count bytes = record { on = λ f s done. done; few = omega arith }

pub run_more : {rule : Rule} {pitch y from x count : ℕ} {before bytes after : List ℕ} {n r : ℕ} {d : Option ℕ} → from ≤ x
    → RowOn rule pitch y from x count before bytes n → d ≡ change rule x y (get_or bytes (y * pitch + x) 0) → Stamped bytes (y * pitch + x) d n after r
    → RowOn rule pitch y from (x + 1) count before after r
run_more {n = n} {d = d} ahead h e s =
    record {
      on = λ first start done. row_more (h.on first start done) e s;
      few = omega (arith, tallied_few d n, s.tally, h.few);
    }

-- a run that is counted from 0
pub counted_on : {bytes after : List ℕ} {k n r : ℕ} (count : ℕ) (d : Option ℕ) → Stamped bytes k d n after r → Stamped bytes k d (count + n) after (count + r)
counted_on count None s = record { bytes = s.bytes; tally = omega (arith, s.tally) }
counted_on count (Some b) s = record { bytes = s.bytes; tally = omega (arith, s.tally) }

-- pixels that are not written are passed over
pub run_skip : (rule : Rule) (pitch y from to count : ℕ) (bytes : List ℕ) → from ≤ to → ((k : ℕ) → from ≤ k → k < to → rule.writes k y ≡ false)
    → RowOn rule pitch y from to count bytes bytes count
run_skip rule pitch y from to count bytes ahead none =
    let e : from + (to - from) ≡ to = omega arith in
    record {
      on = λ first start done. rw e at (row_skip_run (to - from) done (λ k low high. none k low (omega arith)));
      few = omega arith;
    }

-- ---- the cells of a row

module _ (p : Plan) (held : Held) (h : Planned p) where
  -- a column of cells is the layer's
  pub cell_inside : (k row : ℕ) → row < p.rows → k < cells_of p → CellInside p k row
  cell_inside k row above left =
      let s = p.shape in
      let f = h.formed in
      let last : p.across - 1 < s.width / ratio_of s = omega (arith, ap (λ (q : Plan). q.across) h.is, h.wide.0) in
      let x : (p.across - 1) / p.side < s.width / s.ratio =
      rw (ap (λ (q : Plan). q.side) h.is) (cell_in (eqb s.plane 0) s.width s.ratio (p.across - 1) f.ratio f.whole_across last) in
      record { left = omega (arith, f.chroma_pitch.0); above = above }

  -- one begins within the plane, and the last one ends it
  pub begins : (k : ℕ) → k < cells_of p → k * p.side < p.across
  begins k below =
      let w = h.wide in
      let m = (le-div_iff_mul-le {k = p.side} {x = k} {y = p.across - 1} (omega (arith, h.small))).0 (omega arith) in
      omega arith

  -- the cell before one ends where that one begins, or the plane ends
  pub ends : (k x to : ℕ) → 1 ≤ k → x ≡ (k - 1) * p.side + 0 → to ≡ min (x / p.side * p.side + p.side) p.across → to ≡ column p k
  ends k x to some is end =
      let e : x / p.side ≡ k - 1 = ap (λ (n : ℕ). n / p.side) is ∙ div-mul-add (k - 1) p.side 0 (omega (arith, h.small)) in
      let j : k - 1 + 1 ≡ k = omega arith in
      let m = rw j at (add-mul (k - 1) 1 p.side) in
      let f : (k - 1) * p.side + p.side ≡ k * p.side = omega (arith, m) in
      end ∙ rw (e, f)

  pub all_columns : column p (cells_of p) ≡ p.across
  all_columns =
      let w = h.wide in
      let m = (div-lt_iff_lt-mul {k = p.side} {x = p.across - 1} {y = cells_of p} (omega (arith, h.small))).0 (omega arith) in
      omega arith

  -- the pixels of cells that are near, or far
  pub alike : (near : Bool) (y from to : ℕ) → Cells (lay p.shape held) (y / p.side) near from to
      → (k : ℕ) → column p from ≤ k → k < column p to → (gap (lay p.shape held) p.shape.plane k y ≼ 0·0) ≡ near
  unfolding gap distance
  alike near y from to cells k low high =
      let some : 0 < p.side = omega (arith, h.small) in
      let first = (le-div_iff_mul-le {k = p.side} {x = from} {y = k} some).1 (omega arith) in
      let last = (div-lt_iff_lt-mul {k = p.side} {x = k} {y = to} some).1 (omega arith) in
      rw h.is at (cells (k / p.side) first last)

-- ---- what a search finds

pub first_is : (l : Layer) (row : ℕ) (near : Bool) (from to : ℕ) (r : Option ℕ)
    → MatchOption r (Cells l row (not near) from to) (λ k. (from ≤ k) × (k < to) × (near_cell l k row ≡ near) × Cells l row (not near) from k)
    → First l row near from to r
first_is l row near from to None h = h
first_is l row near from to (Some k) h = record { ahead = h.0; within = h.1; is = h.2; before = h.3 }

-- the near cells from the first one up to the far one after it, or to the end
pub record Touching (l : Layer) (row to first e : ℕ) : Type 0 where
  pub ahead : first < e
  pub within : e ≤ to
  pub near : Cells l row true first e
  pub stops : e < to → Cells l row false e (e + 1)

pub near_cells : (l : Layer) (row from to first e : ℕ) (r : Option ℕ) → FirstAt l row true from to first → First l row false (first + 1) to r → e ≡ unwrap_or r to
    → Touching l row to first e
near_cells l row from to first e r found next is = rw is (go r next)
  where
    joined : (n : ℕ) → Cells l row true (first + 1) n → Cells l row true first n
    joined n more k low high = pick (eq-or-lt_of_le {n = first} {m = k} low)
      where
        pick : (first ≡ k) ⊎ (first < k) → near_cell l k row ≡ true
        pick (inl same) = rw same at found.is
        pick (inr less) = more k (omega arith) high

    go : (o : Option ℕ) → First l row false (first + 1) to o → Touching l row to first (unwrap_or o to)
    go None none = record { ahead = found.within; within = omega arith; near = joined to none; stops = λ less. absurd (omega arith) }
    go (Some i) far =
        record {
          ahead = omega (arith, far.ahead);
          within = omega (arith, far.within);
          near = joined i far.before;
          stops = λ less k low high. let same : i ≡ k = omega arith in rw same at far.is;
        }

-- and the pixel behind them is far
pub stops : (p : Plan) (held : Held) → Planned p → (y first e to : ℕ) → Touching (lay p.shape held) (y / p.side) (cells_of p) first e → to ≡ column p e
    → to < p.across → (gap (lay p.shape held) p.shape.plane to y ≼ 0·0) ≡ false
stops p held h y first e to run is less =
    let some : 0 < p.side = omega (arith, h.small) in
    let inside = (le-div_iff_mul-le {k = p.side} {x = e} {y = p.across - 1} some).1 (omega (arith, is, less)) in
    alike p held h false y e (e + 1) (run.stops (omega (arith, inside))) to (omega (arith, is)) (omega (arith, is, less, add-mul e 1 p.side, h.small))

-- ---- the rows of an output

pub row_in : (y height pitch width n : ℕ) → y < height → (height - 1) * pitch + width ≤ n → y * pitch + width ≤ n
row_in y height pitch width n below room =
    let h : y ≤ height - 1 = omega arith in
    omega (arith, mul-le-mul_right pitch h)
