-- The luma entries of a model slice. Assumes nothing.
use mathlib.Core.Path.{◌≡◌, ap}
use mathlib.Core.List.{List}
use Prim.Native.Nat.{ℕ, ◌+◌, ◌-◌, ◌*◌, ◌<◌}
use native.Mathlib.Omega.{arith}
use borrow.Author.Tests.{lt-ltb, le-ltb}
use lib.ListN.{get_or}
use lib.Ieee.{Float, nan}
use Rattle.rules.specs.Model.{Fitted}
use Rattle.rules.specs.Assembly.{stored_gain, stored_offset, luma_entry, model_slice}
use Rattle.table.proofs.Models.{model_at_lem}

module _ (s : List Float) (pixels at : ℕ) (inside : at < pixels) where
  pub gain_is : luma_entry (model_slice s pixels) pixels at ≡ (stored_gain (get_or s (at * 4) nan)).0
  unfolding luma_entry
  gain_is = rw (lt-ltb at pixels inside) (ap (λ (m : Fitted). (stored_gain m.model.gain).0) (model_at_lem s pixels at inside))

  pub offset_is : luma_entry (model_slice s pixels) pixels (pixels + at) ≡ (stored_offset (get_or s (at * 4 + 1) nan)).0
  unfolding luma_entry
  offset_is =
      let low : pixels + at - pixels ≡ at = omega arith in
      rw (le-ltb (pixels + at) pixels (omega arith), low) (ap (λ (m : Fitted). (stored_offset m.model.offset).0) (model_at_lem s pixels at inside))
