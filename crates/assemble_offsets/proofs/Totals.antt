-- The totals as they are summed are the rules' totals. Assumes nothing.
use mathlib.Core.Path.{◌≡◌, ap}
use mathlib.Core.Logic.{◌⊎◌, inl, inr}
use mathlib.Core.List.{List}
use Prim.Native.Nat.{ℕ, zero, suc, ◌+◌, ◌-◌, ◌*◌, ◌≤◌, ◌<◌}
use native.Mathlib.Nat.{add_assoc, suc-mul, mul-le-mul, eq-or-lt_of_le}
use native.Mathlib.Omega.{arith}
use lib.Arith.{digits_div, digits_mod}
use lib.IntN.{ℤ, pos, nat_abs, ◌+ℤ◌}
use lib.ListN.{get_or}
use lib.Ieee.{Float, nan}
use Rattle.rules.specs.Forms.{turns, scan_row, scan}
use Rattle.rules.specs.Float.{◌⊘◌, float}
use Rattle.rules.specs.Assembly.{stored_offset, offset_of, model_slice, chroma_total}
use Rattle.table.proofs.Turns.{turns_same}
use Rattle.table.proofs.Models.{model_at_lem}
use Rattle.assemble_offsets.specs.declared.Sizes.{Sizes}
use Rattle.assemble_offsets.specs.Sizes.{Formed, ModelsLong, Block, RowFits, term_of, row_total, block_total}
use Rattle.assemble_offsets.proofs.Signed.{row_size}
use Rattle.assemble_offsets.proofs.Places.{luma_place}

-- the offset of plane 1 or 2 in a model slice
pub offset_at : (s : List Float) (pixels plane at : ℕ) → (1 ≤ plane) × (plane ≤ 2) → at < pixels
    → offset_of (model_slice s pixels) plane at ≡ get_or s (at * 4 + (1 + plane)) nan
offset_at s pixels plane at is inside = go (eq-or-lt_of_le is.1)
  where
    go : (plane ≡ 2) ⊎ (plane < 2) → offset_of (model_slice s pixels) plane at ≡ get_or s (at * 4 + (1 + plane)) nan
    go (inl e) = rw (e, model_at_lem s pixels at inside)
    go (inr h) = let e : plane ≡ 1 = omega arith in rw (e, model_at_lem s pixels at inside)

-- a total as it is summed
module _ (sizes : Sizes) (f : Formed sizes) (s : List Float) (plane x y : ℕ) (b : Block sizes plane x y) where
  abbrev pixels : ℕ
  pixels = sizes.width * sizes.height

  abbrev share : Float
  share = float (sizes.ratio * sizes.ratio)

  term_is : (dx dy : ℕ) → dx < sizes.ratio → dy < sizes.ratio
      → term_of s plane share ((y * sizes.ratio + dy) * sizes.width + x * sizes.ratio + dx)
      ≡ (stored_offset (offset_of (model_slice s pixels) plane ((y * sizes.ratio + dy) * sizes.width + (x * sizes.ratio + dx)) ⊘ share)).0
  unfolding term_of
  term_is dx dy across down =
      let inside = luma_place sizes f x y dx dy b.left b.above across down in
      rw (offset_at s pixels plane ((y * sizes.ratio + dy) * sizes.width + (x * sizes.ratio + dx)) b.plane_is inside, add_assoc ((y * sizes.ratio + dy) * sizes.width) (x * sizes.ratio) dx)

  pub total_is : block_total s plane share sizes.width sizes.ratio x y sizes.ratio ≡ chroma_total (model_slice s pixels) sizes.width sizes.ratio plane (y * sizes.chroma_width + x)
  unfolding chroma_total scan scan_row block_total row_total
  total_is =
      rw (← f.across_is, digits_div y b.left, digits_mod y b.left)
      (turns_same _ _ sizes.ratio (λ dy down. turns_same _ _ sizes.ratio (λ dx across t. ap (λ (z : ℤ). t +ℤ z) (term_is dx dy across down))) (pos 0))

-- what a row of the block asks
module _ (sizes : Sizes) (f : Formed sizes) (s : List Float) (long : ModelsLong s sizes) (plane x y dy : ℕ) (b : Block sizes plane x y) (down : dy < sizes.ratio) where
  size : (n : ℕ) → nat_abs (block_total s plane (float (sizes.ratio * sizes.ratio)) sizes.width sizes.ratio x y n) ≤ n * (sizes.ratio * 32767)
  unfolding turns block_total
  size zero = omega arith
  size (suc n) =
      let share = float (sizes.ratio * sizes.ratio) in
      let row = (y * sizes.ratio + n) * sizes.width + x * sizes.ratio in
      omega (arith, size n, row_size s plane share row sizes.ratio (block_total s plane share sizes.width sizes.ratio x y n), suc-mul n (sizes.ratio * 32767))

  pub row_asks : (t : ℤ) → t ≡ block_total s plane (float (sizes.ratio * sizes.ratio)) sizes.width sizes.ratio x y dy
      → RowFits s ((y * sizes.ratio + dy) * sizes.width + x * sizes.ratio) sizes.ratio plane t
  row_asks t e =
      let r = f.ratio in
      let h = size dy in
      let few : dy * (sizes.ratio * 32767) ≤ 4 * (4 * 32767) = mul-le-mul {n₂ = 4} {m₂ = 4 * 32767} (omega arith) (omega arith) in
      let p = luma_place sizes f x y (sizes.ratio - 1) dy b.left b.above (omega arith) down in
      record {
        inside = omega arith;
        plane_is = b.plane_is;
        small = r.1;
        few = rw e (omega arith);
      }
