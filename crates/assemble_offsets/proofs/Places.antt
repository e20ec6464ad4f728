-- Where the luma pixels of a chroma pixel stand, and that they stand within their slices. Assumes nothing.
use Prim.Native.Nat.{ℕ, ◌+◌, ◌*◌, ◌<◌}
use native.Mathlib.Omega.{arith}
use lib.Arith.{digits_lt}
use Rattle.laws.proofs.Lists.{place_in}
use Rattle.assemble_offsets.specs.declared.Sizes.{Sizes}
use Rattle.assemble_offsets.specs.Sizes.{Formed}

-- a luma pixel of chroma pixel (x, y)
module _ (sizes : Sizes) (f : Formed sizes) (x y dx dy : ℕ) (left : x < sizes.chroma_width) (above : y < sizes.chroma_height) (across : dx < sizes.ratio) (down : dy < sizes.ratio) where
  pub luma_row : y * sizes.ratio + dy < sizes.height
  luma_row = let h = digits_lt above down in let e = f.down in omega arith

  pub luma_column : x * sizes.ratio + dx < sizes.width
  luma_column = let h = digits_lt left across in let e = f.across in omega arith

  pub luma_place : (y * sizes.ratio + dy) * sizes.width + (x * sizes.ratio + dx) < sizes.width * sizes.height
  luma_place = place_in luma_row luma_column
