-- A model slice is the table of its pixels. Assumes nothing.
use mathlib.Core.Path.{◌≡◌, ◌∙◌}
use mathlib.Core.List.{List}
use Prim.Native.Nat.{ℕ, ◌+◌, ◌*◌, ◌≤◌, ◌<◌}
use native.Mathlib.Omega.{arith}
use lib.ListN.{length, get_or, set, length-set}
use lib.Seq.{get_or-set_same, get_or-set_other}
use lib.Ieee.{Float, nan}
use Rattle.rules.specs.Model.{unfitted}
use Rattle.rules.specs.Assembly.{model_slice}
use Rattle.table.specs.Models.{model_at, model_put}
use Rattle.laws.proofs.Lists.{get_or-tabulate}

pub model_at_lem : (s : List Float) (pixels at : ℕ) → at < pixels → get_or (model_slice s pixels) at unfitted ≡ model_at s at
unfolding model_slice
model_at_lem s pixels at inside = get_or-tabulate pixels (model_at s) at unfitted inside

-- ---- a pixel is put

module _ (s : List Float) (at : ℕ) (gain offset first second : Float) where
  abbrev one : List Float
  one = set s (at * 4) gain

  abbrev two : List Float
  two = set one (at * 4 + 1) offset

  abbrev three : List Float
  three = set two (at * 4 + 2) first

  -- where no float of the pixel stands
  outside : (k : ℕ) → (k ≡ at * 4 → ⊥) → (k ≡ at * 4 + 1 → ⊥) → (k ≡ at * 4 + 2 → ⊥) → (k ≡ at * 4 + 3 → ⊥)
      → get_or (model_put s at gain offset first second) k nan ≡ get_or s k nan
  outside k a b c d =
      get_or-set_other three (at * 4 + 3) k second nan d
      ∙ get_or-set_other two (at * 4 + 2) k first nan c
      ∙ get_or-set_other one (at * 4 + 1) k offset nan b
      ∙ get_or-set_other s (at * 4) k gain nan a

  -- the other pixels are as they were
  pub put_other : (k : ℕ) → (k ≡ at → ⊥) → model_at (model_put s at gain offset first second) k ≡ model_at s k
  put_other k h =
      rw (
        outside (k * 4) (λ e. h (omega arith)) (λ e. omega arith) (λ e. omega arith) (λ e. omega arith),
        outside (k * 4 + 1) (λ e. omega arith) (λ e. h (omega arith)) (λ e. omega arith) (λ e. omega arith),
        outside (k * 4 + 2) (λ e. omega arith) (λ e. omega arith) (λ e. h (omega arith)) (λ e. omega arith),
        outside (k * 4 + 3) (λ e. omega arith) (λ e. omega arith) (λ e. omega arith) (λ e. h (omega arith)),
      )

  -- and the pixel is put
  pub put_same : at * 4 + 4 ≤ length s → model_at (model_put s at gain offset first second) at ≡ record { model = record { gain = gain; offset = offset }; chroma = (first, second) }
  put_same inside =
      rw (
        get_or-set_other three (at * 4 + 3) (at * 4) second nan (λ e. omega arith),
        get_or-set_other two (at * 4 + 2) (at * 4) first nan (λ e. omega arith),
        get_or-set_other one (at * 4 + 1) (at * 4) offset nan (λ e. omega arith),
        get_or-set_same s (at * 4) gain nan (omega arith),
        get_or-set_other three (at * 4 + 3) (at * 4 + 1) second nan (λ e. omega arith),
        get_or-set_other two (at * 4 + 2) (at * 4 + 1) first nan (λ e. omega arith),
        get_or-set_same one (at * 4 + 1) offset nan (simp length-set (omega arith)),
        get_or-set_other three (at * 4 + 3) (at * 4 + 2) second nan (λ e. omega arith),
        get_or-set_same two (at * 4 + 2) first nan (simp length-set (omega arith)),
        get_or-set_same three (at * 4 + 3) second nan (simp length-set (omega arith)),
      )
