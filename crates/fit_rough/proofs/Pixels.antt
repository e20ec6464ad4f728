-- One pixel of the search, and its chroma pixel. Assumes nothing.
use mathlib.Core.Path.{◌≡◌, sym, ◌∙◌}
use mathlib.Core.List.{List}
use Prim.Native.Nat.{ℕ, ◌+◌, ◌*◌, ◌/◌, ◌<◌}
use native.Mathlib.Nat.{div-lt_iff_lt-mul}
use lib.Arith.{digits_div, digits_mod}
use lib.Ieee.{Float}
use Rattle.rules.specs.declared.Found.TheVariants.{At, Nothing}
use Rattle.rules.specs.declared.Model.{Model}
use Rattle.rules.specs.declared.Trial.{Trial}
use Rattle.rules.specs.Forms.{Parts}
use Rattle.rules.specs.Window.{window, chroma_at, fitted}
use Rattle.fit_trial.specs.declared.Settings.{Settings}
use Rattle.assemble_offsets.specs.declared.Sizes.{Sizes}
use Rattle.assemble_offsets.specs.Sizes.{Formed}
use Rattle.laws.proofs.Lists.{place_in}
use Rattle.fit_rough.specs.Search.{passed_over, found_put, search}

-- the chroma pixel of column x and row y
module _ (g : Sizes) (f : Formed g) (x y : ℕ) (left : x < g.width) (above : y < g.height) where
  pub spot_is : chroma_at g.width g.ratio (y * g.width + x) ≡ y / g.ratio * g.chroma_width + x / g.ratio
  spot_is = rw (digits_div y left, digits_mod y left, f.across_is)

  pub column_in : x / g.ratio < g.chroma_width
  column_in = (div-lt_iff_lt-mul {k = g.ratio} {x = x} {y = g.chroma_width} f.ratio.0).1 (rw f.across left)

  pub row_in : y / g.ratio < g.chroma_height
  row_in = (div-lt_iff_lt-mul {k = g.ratio} {x = y} {y = g.chroma_height} f.ratio.0).1 (rw f.down above)

  pub spot_in : y / g.ratio * g.chroma_width + x / g.ratio < g.chroma_width * g.chroma_height
  spot_in = place_in row_in column_in

  pub pixel_in : y * g.width + x < g.width * g.height
  pixel_in = place_in above left

-- a pixel where nothing is found, and one where a model is
module _ (parts : Parts) (g : Sizes) (settings : Settings) (at here : ℕ) (at-is : at ≡ here) (s after : List Float × List ℕ) where
  pub none_found : window parts at settings.limit settings.evidence settings.strict ≡ Nothing → after ≡ passed_over at s → after ≡ search parts g settings here s
  unfolding search found_put fitted
  none_found e put = rw (← at-is) (put ∙ sym (rw e))

  pub one_found : (m : Model) (trial : Trial) → window parts at settings.limit settings.evidence settings.strict ≡ At m trial → after ≡ found_put parts g here (At m trial) s
      → after ≡ search parts g settings here s
  unfolding search
  one_found m trial e put = put ∙ sym (rw (← at-is, e))
