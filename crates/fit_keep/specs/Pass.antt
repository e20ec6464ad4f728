-- The keeping pass as a fold over its pixels, what it asks and what it leaves.
use Rattle.std.specs.Prelude.{◌≡◌, cond, List, ℕ, ◌+◌, ◌*◌, ◌≤◌, ◌<◌, eqb, length, get_or, set, Float}
use Rattle.rules.specs.Forms.{cells}
use Rattle.rules.specs.Literals.{0·0, 1·0}
use Rattle.rules.specs.Model.{Fitted, unfitted}
use Rattle.rules.specs.Keeping.{cell_of, cover, kept_models}
use Rattle.rules.specs.Assembly.{model_slice}
use Rattle.table.specs.Models.{model_at, model_put}
use Rattle.fit_near.specs.declared.Verdict.{Verdict}
use Rattle.fit_near.specs.declared.Verdict.TheVariants.{Dropped, Unmarked, Marked}
use Rattle.fit_near.specs.Verdict.{verdict_of}

-- ---- the kept bytes and the cells

-- what a verdict does to the kept byte of pixel `at` and to its cell
abbrev pub marked : Verdict → (at cell : ℕ) → List ℕ × List ℕ → List ℕ × List ℕ
marked Dropped at cell s = (set s.0 at 2, s.1)
marked Unmarked at cell s = (set s.0 at 1, s.1)
marked Marked at cell s = (set s.0 at 1, set s.1 cell 0)

-- one pixel: nothing where nothing was found
unfoldable pub step : (rough : List Fitted) → (size : ℕ × ℕ) → (at : ℕ) → List ℕ × List ℕ → List ℕ × List ℕ
step rough size at s = cond (eqb (get_or s.0 at 0) 0) s (marked (verdict_of rough size at) at (cell_of size.0 at) s)

-- by its column and row
abbrev pub step_at : (rough : List Fitted) → (size : ℕ × ℕ) → (x y : ℕ) → List ℕ × List ℕ → List ℕ × List ℕ
step_at rough size x y = step rough size (y * size.0 + x)

-- ---- the models

-- a model whose kept byte is 2 becomes (1, 0)
unfoldable pub reset_step : (kept : List ℕ) → (at : ℕ) → List Float → List Float
reset_step kept at s = cond (eqb (get_or kept at 0) 2) (model_put s at 1·0 0·0 0·0 0·0) s

-- ---- what is asked and left

-- a kept byte for each pixel, and the cells
pub record Work (kept cells' : List ℕ) (width height : ℕ) : Type 0 where
  pub kept_long : length kept ≡ width * height
  pub cover_long : length cells' ≡ cells width * cells height

-- work slices of these sizes
pub record Sound (models : List Float) (kept cells' : List ℕ) (width height : ℕ) : Type 0 where
  pub wide : width ≤ 4096
  pub tall : height ≤ 4096
  pub models_long : length models ≡ 4 * (width * height)
  pub kept_long : length kept ≡ width * height
  pub cover_long : length cells' ≡ cells width * cells height

-- where the kept byte is 0 there is no model
abbrev pub Flagged : List Float → List ℕ → Type 0
Flagged models kept = (at : ℕ) → at < length kept → get_or kept at 0 ≡ 0 → model_at models at ≡ unfitted

-- what is kept of the models, and the cover
pub record Kept (rough : List Fitted) (size : ℕ × ℕ) (models : List Float) (cells' : List ℕ) : Type 0 where
  pub models_are : model_slice models (size.0 * size.1) ≡ kept_models rough size
  pub cover_is : cells' ≡ cover rough size
