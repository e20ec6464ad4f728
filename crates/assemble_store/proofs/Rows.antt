-- Rows of a layer, one after the other, up to the whole layer. Assumes nothing.
use mathlib.Core.Path.{◌≡◌, sym, ◌∙◌}
use mathlib.Core.List.{List}
use Prim.Native.Nat.{ℕ, ◌+◌, ◌*◌, ◌≤◌, ◌<◌}
use native.Mathlib.Nat.{mul_assoc, mul_comm, mul-le-mul, mul-le-mul_right, zero-mul, suc-mul}
use native.Mathlib.Omega.{arith}
use lib.IntN.{ℤ}
use Rattle.rules.specs.Model.{Fitted}
use Rattle.rules.specs.Assembly.{assembled}
use Rattle.assemble_offsets.specs.declared.Sizes.{Sizes}
use Rattle.assemble_offsets.specs.Sizes.{Formed}
use Rattle.table.proofs.Laws.{paired_none, paired_join, paired_whole}
use Rattle.assemble_store.specs.Entries.{tail_entry, chroma_entry, Room, RowsStored, Stored}

-- ---- the luma pixels of chroma row y

module _ (sizes : Sizes) (f : Formed sizes) where
  bands : sizes.chroma_height * (sizes.ratio * sizes.width) ≡ sizes.width * sizes.height
  bands = sym (mul_assoc sizes.chroma_height sizes.ratio sizes.width) ∙ rw f.down (mul_comm sizes.height sizes.width)

  pub pixels_small : sizes.width * sizes.height ≤ 16777216
  pixels_small = mul-le-mul f.wide.1 f.tall.1

  pub band_in : (y band : ℕ) → band ≡ sizes.ratio * sizes.width → y < sizes.chroma_height → y * band + band ≤ sizes.width * sizes.height
  band_in y band e below = rw e (omega (arith, suc-mul y (sizes.ratio * sizes.width), mul-le-mul_right (sizes.ratio * sizes.width) below, bands))

-- ---- rows stored

module _ {sizes : Sizes} {models : List Fitted} {cover : List ℕ} where
  pub rows_none : (lo : ℕ) (luma first second : List ℤ) → RowsStored sizes models cover lo lo luma first second luma first second
  rows_none lo luma first second =
      record { luma_done = paired_none _ _ _ _; first_done = paired_none _ _ _ _; second_done = paired_none _ _ _ _ }

  pub rows_join : {lo mid hi : ℕ} {l₀ a₀ b₀ l a b l' a' b' : List ℤ} → RowsStored sizes models cover lo mid l₀ a₀ b₀ l a b → RowsStored sizes models cover mid hi l a b l' a' b'
      → RowsStored sizes models cover lo hi l₀ a₀ b₀ l' a' b'
  rows_join s t =
      record {
        luma_done = paired_join s.luma_done t.luma_done;
        first_done = paired_join s.first_done t.first_done;
        second_done = paired_join s.second_done t.second_done;
      }

-- all of them are the layer
pub rows_whole : (sizes : Sizes) (f : Formed sizes) (models : List Fitted) (cover : List ℕ) (l₀ a₀ b₀ l a b : List ℤ) → Room l a b sizes
    → RowsStored sizes models cover 0 sizes.chroma_height l₀ a₀ b₀ l a b → Stored (assembled models cover (sizes.width, sizes.height) sizes.ratio) l a b
unfolding assembled chroma_entry tail_entry
rows_whole sizes f models cover l₀ a₀ b₀ l a b room done =
    record {
      luma_is = paired_whole (rw (zero-mul, bands sizes f) at done.luma_done) room.luma_long;
      first_is = rw (← f.across_is, ← f.down_is) (paired_whole (rw (zero-mul, mul_comm sizes.chroma_height sizes.chroma_width) at done.first_done) room.first_long);
      second_is = rw (← f.across_is, ← f.down_is) (paired_whole (rw (zero-mul, mul_comm sizes.chroma_height sizes.chroma_width) at done.second_done) room.second_long);
    }
