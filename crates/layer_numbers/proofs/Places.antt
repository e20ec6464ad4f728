-- Where a pixel's stored numbers stand, and that they stand within their slices. Assumes nothing.
use mathlib.Core.Path.{◌≡◌, sym, ap, ◌∙◌}
use mathlib.Core.List.{List}
use Prim.Native.Nat.{ℕ, ◌+◌, ◌*◌, ◌/◌, ◌≤◌, ◌<◌}
use native.Mathlib.Nat.{suc-mul, mul_comm, mul-le-mul_right}
use native.Mathlib.Omega.{arith}
use borrow.Author.Tests.{ne_eqb}
use lib.IntN.{ℤ}
use lib.ListN.{length}
use Rattle.layer_lent.specs.declared.Plan.{Plan}
use Rattle.layer_lent.specs.Lent.{LumaLong, ChromaLong, Planned, Inside}
use Rattle.layer_numbers.specs.Stored.{RowFits}

-- a place in whole rows
first_in : (row rows pitch col : ℕ) → row < rows → col ≤ pitch → row * pitch + col ≤ pitch * rows
first_in row rows pitch col below left = omega (arith, suc-mul row pitch, mul-le-mul_right pitch below, mul_comm rows pitch)

-- the luma pixels of a pixel
block_in : (x n r k : ℕ) → x < n → k ≤ r → x * r + k ≤ n * r
block_in x n r k below small = omega (arith, suc-mul x r, mul-le-mul_right r below)

module _ (p : Plan) (x y : ℕ) (h : Planned p) (i : Inside p x y) where
  col_in : x * p.span + p.span ≤ p.shape.width
  col_in = let b = block_in x p.across p.span p.span i.left (omega arith) in let e = h.whole_across in omega arith

  row_in : (dy : ℕ) → dy < p.span → y * p.span + dy < p.shape.height
  row_in dy below = let b = block_in y p.down p.span (dy + 1) i.above (omega arith) in let e = h.whole_down in omega arith

  -- a row of gains
  pub row_fits : (l : List ℤ) → LumaLong p l → (dy : ℕ) → dy < p.span → RowFits l (y * p.span + dy) p.shape.luma_pitch x p.span
  row_fits l long dy below =
      let c = col_in in
      let r = row_in dy below in
      let f = h.formed in
      let w = h.wide in
      let e = h.span in
      let left = i.left in
      record {
        low = omega (arith, r, f.tall);
        narrow = f.luma_pitch.1;
        small = e.1;
        left = omega arith;
        inside = omega (arith, first_in (y * p.span + dy) p.shape.height p.shape.luma_pitch (x * p.span + p.span) r (omega (arith, c, f.luma_pitch)));
      }

  -- a chroma pixel's offset
  pub chroma_in : (l : List ℤ) → ChromaLong p l → (p.shape.plane ≡ 0 → ⊥) → y * p.shape.chroma_pitch + x < length l
  chroma_in l long some =
      let wide : p.across ≡ p.shape.width / p.shape.ratio = ap (λ (q : Plan). q.across) h.is ∙ simp (ne_eqb _ _ some) in
      let tall : p.down ≡ p.rows = ap (λ (q : Plan). q.down) h.is ∙ simp (ne_eqb _ _ some) (sym (ap (λ (q : Plan). q.rows) h.is)) in
      let left = i.left in
      let above = i.above in
      let pitch = h.formed.chroma_pitch in
      omega (arith, long, first_in y p.rows p.shape.chroma_pitch (x + 1) (omega arith) (omega arith))
