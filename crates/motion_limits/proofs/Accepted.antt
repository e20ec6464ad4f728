-- Where a table's tests hold, planes and motion can be read.
-- Assumes nothing.
use mathlib.Core.Path.{◌≡◌, sym}
use mathlib.Core.Bool.{Bool, true, ◌&&◌, false≢true}
use mathlib.Core.List.{List}
use Prim.Native.Nat.{ℕ, ◌+◌, ◌-◌, ◌*◌, ◌≤◌}
use native.Mathlib.Nat.{le_of_eq, le_trans}
use native.Mathlib.Omega.{arith}
use borrow.Author.Tests.{leb-true, eqb-true}
use lib.Dec.{leb, eqb}
use lib.IntN.{ℤ, pos, negsuc, nat_abs}
use lib.ListN.{length}
use Rattle.std.proofs.lemmas.Bool.{and_parts}
use Rattle.rules.specs.Forms.{area}
use Rattle.rules.specs.Domain.{are_sizes, is_pitch, is_plane, spans, is_pel, motion_lengths, motion_numbers}
use Rattle.laws.proofs.Accepted.{Side, sizes_in, pitch_in, one_in}
use Rattle.plane.specs.Slices.{Slices, slice}
use Rattle.sample.specs.Points.{PlaneFits}
use Rattle.motion.specs.declared.Grid.{Grid}
use Rattle.motion.specs.Moves.{motion_of, Laid, Moves}

-- ---- sizes and planes

pub plane_in : (raw : List ℕ) (pitch width height : ℕ) → Side width → Side height → is_pitch pitch width ≡ true
    → is_plane (record { bytes = raw; pitch = pitch }) (width, height) ≡ true → PlaneFits raw pitch width height
plane_in raw pitch width height wide tall p l =
    record { wide = wide; tall = tall; apart = pitch_in pitch width p; long = leb-true ((height - 1) * pitch + width) (length raw) l }

-- ---- motion

side_in : (z : ℤ) → spans (pos 1) (pos 128) z ≡ true → nat_abs z ≤ 4096
side_in (pos n) e = let l = leb-true n 128 (and_parts (leb 1 n) (leb n 128) e).1 in omega arith
side_in (negsuc n) e = absurd (false≢true e)

origin_in : (z : ℤ) → spans (negsuc 4095) (pos 4096) z ≡ true → nat_abs z ≤ 4096
origin_in (pos n) e = leb-true n 4096 (and_parts true (leb n 4096) e).1
origin_in (negsuc n) e = let l = leb-true n 4095 (and_parts (leb n 4095) true e).0 in omega arith

pel_in : (z : ℤ) → is_pel z ≡ true → nat_abs z ≤ 4096
pel_in (pos n) e = le_trans (one_in n e).0.1 (omega arith)
pel_in (negsuc n) e = absurd (false≢true e)

module _ (fields : Slices ℕ) (g : Grid) (ratio : ℕ) (few : ratio ≤ 4) where
  laid_in : motion_numbers (motion_of fields g) ≡ true → Laid g ratio
  laid_in e =
      let sizes = are_sizes (g.width, g.height) in
      let bw = spans (pos 1) (pos 128) g.block_width in
      let bh = spans (pos 1) (pos 128) g.block_height in
      let ox = spans (negsuc 4095) (pos 4096) g.origin_x in
      let oy = spans (negsuc 4095) (pos 4096) g.origin_y in
      let a = and_parts (sizes && bw && bh && ox && oy) (is_pel g.pel) e in
      let b = and_parts (sizes && bw && bh && ox) oy a.0 in
      let c = and_parts (sizes && bw && bh) ox b.0 in
      let d = and_parts (sizes && bw) bh c.0 in
      let f = and_parts sizes bw d.0 in
      let s = sizes_in (g.width, g.height) f.0 in
      record {
        wide = s.0;
        tall = s.1;
        blocks = (side_in g.block_width f.1, side_in g.block_height d.1);
        origins = (origin_in g.origin_x c.1, origin_in g.origin_y b.1);
        parts = pel_in g.pel a.1;
        few = few;
      }

  covers : (field : List ℕ) → eqb (length field) (area (g.width, g.height)) ≡ true → area (g.width, g.height) ≤ length field
  covers field e = le_of_eq (sym (eqb-true (length field) (area (g.width, g.height)) e))

  -- a motion whose lengths and numbers are right
  pub moves_in : motion_lengths (motion_of fields g) ≡ true → motion_numbers (motion_of fields g) ≡ true → Moves fields g ratio
  moves_in l n =
      let test : List ℕ → Bool = λ field. eqb (length field) (area (g.width, g.height)) in
      let fx = slice fields 0 in
      let fy = slice fields 1 in
      let bx = slice fields 2 in
      let by = slice fields 3 in
      let a = and_parts (test fx && test fy && test bx) (test by) l in
      let b = and_parts (test fx && test fy) (test bx) a.0 in
      let c = and_parts (test fx) (test fy) b.0 in
      record { laid = laid_in n; forward = (covers fx c.0, covers fy c.1); backward = (covers bx b.1, covers by a.1) }
