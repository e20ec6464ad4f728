-- Sizes and lengths that no row of the table fits. Assumes nothing.
use mathlib.Core.Path.{◌≡◌, refl}
use mathlib.Core.Bool.{true}
use Prim.Native.Nat.{ℕ}
use Rattle.rules.specs.Domain.{are_sizes, is_ratio}
use Rattle.laws.proofs.Accepted.{sizes_in, ratio_in}
use Rattle.assemble_offsets.specs.Sizes.{Formed}
use Rattle.assemble.specs.Call.{sizes_of}

pub formed : (width height ratio : ℕ) → are_sizes (width, height) ≡ true → is_ratio ratio (width, height) ≡ true → Formed (sizes_of width height ratio)
formed width height ratio sizes ratios =
    let s = sizes_in (width, height) sizes in
    let r = ratio_in (width, height) ratio s ratios in
    record {
      wide = s.0;
      tall = s.1;
      ratio = r.few;
      across_is = refl;
      down_is = refl;
      across = r.whole_across;
      down = r.whole_down;
      narrow = r.across;
      low = r.down;
    }
