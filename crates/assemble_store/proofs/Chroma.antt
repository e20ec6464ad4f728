-- The entries of planes 1 and 2. Assumes nothing.
use mathlib.Core.Path.{◌≡◌}
use mathlib.Core.Bool.{cond, ◌&&◌}
use mathlib.Core.List.{List}
use Prim.Native.Nat.{ℕ, ◌+◌, ◌-◌, ◌*◌, ◌≤◌, ◌<◌}
use native.Mathlib.Omega.{arith}
use borrow.Author.Tests.{lt-ltb, le-ltb, ne_eqb}
use lib.Arith.{digits_div, digits_mod}
use lib.Dec.{ltb}
use lib.IntN.{pos}
use lib.ListN.{get_or}
use Rattle.rules.specs.Forms.{cells}
use Rattle.rules.specs.Model.{Fitted}
use Rattle.rules.specs.Assembly.{chroma_total, stored_total, cell_entry}
use Rattle.assemble_offsets.specs.declared.Sizes.{Sizes}
use Rattle.assemble_offsets.specs.Sizes.{Formed}
use Rattle.laws.proofs.Lists.{place_in}
use Rattle.assemble_store.specs.Entries.{Covered, CoverLong, points, tail_entry, chroma_entry}

-- the cell at column x of row y
cell_is : (cover : List ℕ) (size : ℕ × ℕ) (across x y : ℕ) → x < across
    → cell_entry cover size across (y * across + x) ≡ pos (cond (ltb x (cells size.0) && ltb y (cells size.1)) (get_or cover (y * cells size.0 + x) 0) 0)
unfolding cell_entry
cell_is cover size across x y left = rw (digits_div y left, digits_mod y left)

-- it stands in plane 2
pub tail_is : (cover : List ℕ) (size : ℕ × ℕ) (across plane x y : ℕ) → (plane ≡ 1 → ⊥) → x < across
    → tail_entry cover size across plane (y * across + x) ≡ pos (cond (ltb x (cells size.0) && ltb y (cells size.1)) (get_or cover (y * cells size.0 + x) 0) 0)
unfolding tail_entry
tail_is cover size across plane x y other left = rw (ne_eqb plane 1 other) (cell_is cover size across x y left)

few : (n : ℕ) → n ≤ 4096 → cells n ≤ 4096
few n h = omega arith

pub covered : (sizes : Sizes) (cover : List ℕ) → Formed sizes → CoverLong cover sizes → Covered cover (cells sizes.width) (cells sizes.height)
covered sizes cover f e = record { narrow = few sizes.width f.wide.1; low = few sizes.height f.tall.1; long = rw e (omega arith) }

-- ---- both halves

module _ (sizes : Sizes) (x y : ℕ) (left : x < sizes.chroma_width) (above : y < sizes.chroma_height) where
  pub point_in : y * sizes.chroma_width + x < points sizes
  point_in = place_in above left

  module _ (models : List Fitted) (cover : List ℕ) (plane : ℕ) where
    pub first_is : chroma_entry models cover sizes plane (y * sizes.chroma_width + x) ≡ (stored_total (chroma_total models sizes.width sizes.ratio plane (y * sizes.chroma_width + x))).0
    unfolding chroma_entry
    first_is = rw (lt-ltb (y * sizes.chroma_width + x) (points sizes) point_in)

    pub second_is : chroma_entry models cover sizes plane (points sizes + (y * sizes.chroma_width + x))
        ≡ tail_entry cover (sizes.width, sizes.height) sizes.chroma_width plane (y * sizes.chroma_width + x)
    unfolding chroma_entry
    second_is =
        let over : points sizes + (y * sizes.chroma_width + x) - points sizes ≡ y * sizes.chroma_width + x = omega arith in
        rw (le-ltb (points sizes + (y * sizes.chroma_width + x)) (points sizes) (omega arith), over)
