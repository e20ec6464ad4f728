-- The search as a fold over the pixels, what it asks and what it leaves.
use Rattle.std.specs.Prelude.{◌≡◌, List, ℕ, ◌+◌, ◌*◌, length, set, Float}
use Rattle.rules.specs.declared.Found.{Found}
use Rattle.rules.specs.declared.Found.TheVariants.{At, Nothing}
use Rattle.rules.specs.Forms.{Parts, tabulate}
use Rattle.rules.specs.Model.{Fitted, unfitted}
use Rattle.rules.specs.Window.{window, chroma_at, fitted}
use Rattle.rules.specs.Assembly.{model_slice}
use Rattle.fit_trial.specs.declared.Settings.{Settings}
use Rattle.assemble_offsets.specs.declared.Sizes.{Sizes}
use Rattle.assemble_offsets.specs.Sizes.{ModelsLong}
use Rattle.table.specs.Models.{model_put}
use Rattle.fit_keep.specs.Pass.{Flagged}

-- the kept byte of a pixel: whether something was found there
abbrev pub flag_of : Found → ℕ
flag_of (At m trial) = 1
flag_of Nothing = 0

-- a model slice with a fitted pixel put into it
abbrev pub fitted_put : List Float → (at : ℕ) → Fitted → List Float
fitted_put s at m = model_put s at m.model.gain m.model.offset m.chroma.0 m.chroma.1

-- "passed over as (1, 0)": a pixel where nothing is found
abbrev pub passed_over : (at : ℕ) → List Float × List ℕ → List Float × List ℕ
passed_over at s = (fitted_put s.0 at unfitted, set s.1 at 0)

-- a pixel with what is found there: its model, its chroma offsets and its kept byte
unfoldable pub found_put : Parts → Sizes → (at : ℕ) → Found → List Float × List ℕ → List Float × List ℕ
found_put parts g at found s = (fitted_put s.0 at (fitted parts (chroma_at g.width g.ratio at) found), set s.1 at (flag_of found))

-- one pixel
unfoldable pub search : Parts → Sizes → Settings → (at : ℕ) → List Float × List ℕ → List Float × List ℕ
search parts g s at = found_put parts g at (window parts at s.limit s.evidence s.strict)

-- by its column and row
abbrev pub search_at : Parts → Sizes → Settings → (x y : ℕ) → List Float × List ℕ → List Float × List ℕ
search_at parts g s x y = search parts g s (y * g.width + x)

-- work slices of these sizes
pub record Outputs (g : Sizes) (models : List Float) (kept : List ℕ) : Type 0 where
  pub models_long : ModelsLong models g
  pub kept_long : length kept ≡ g.width * g.height

-- the rough models are found, and where the kept byte is 0 there is none
pub record Searched (parts : Parts) (g : Sizes) (s : Settings) (models : List Float) (kept : List ℕ) : Type 0 where
  pub rough_is : model_slice models (g.width * g.height)
      ≡ tabulate (g.width * g.height) (λ at. fitted parts (chroma_at g.width g.ratio at) (window parts at s.limit s.evidence s.strict))
  pub flagged : Flagged models kept
