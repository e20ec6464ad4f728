-- What fit asks for on the way, and what it leaves.
use Rattle.std.specs.Prelude.{◌≡◌, false, List, ℕ, ◌*◌, ◌≤◌, ℤ, length, Float, Result}
use Rattle.rules.specs.declared.Refusal.{Refusal}
use Rattle.rules.specs.Forms.{Part, Parts, tabulate, cells}
use Rattle.rules.specs.Float.{◌⊗◌}
use Rattle.rules.specs.Calls.{FitCall}
use Rattle.rules.specs.Refusals.{numbered, fit_refusal}
use Rattle.rules.specs.Model.{Fitted}
use Rattle.rules.specs.Window.{window, chroma_at, fitted}
use Rattle.rules.specs.Keeping.{cover, kept_models}
use Rattle.rules.specs.Distances.{distances}
use Rattle.rules.specs.Assembly.{model_slice}
use Rattle.rules.specs.Fit.{fit_leaves, frees_work}
use Rattle.fit_trial.specs.declared.Settings.{Settings}
use Rattle.assemble_offsets.specs.declared.Sizes.{Sizes}
use Rattle.assemble_offsets.specs.Sizes.{Formed}
use Rattle.assemble_store.specs.Entries.{Stored}
use Rattle.fit_keep.specs.Pass.{Sound}

-- the rough models
abbrev pub rough_of : Parts → Sizes → Settings → List Fitted
rough_of parts g s =
    tabulate (g.width * g.height) (λ at. fitted parts (chroma_at g.width g.ratio at) (window parts at (s.limit ⊗ s.limit) s.evidence s.strict))

-- ---- what is asked and left on the way

-- a neighbour is absent, or as long as the own part
abbrev pub Beside : (own other : Part) → Type 0
Beside own other =
    1 ≤ other.pairs
    → (length other.luma ≡ length own.luma) × (length other.chroma.0 ≡ length own.chroma.0) × (length other.chroma.1 ≡ length own.chroma.1)

-- parts and work slices that are not refused
pub record Asks (parts : Parts) (g : Sizes) (models : List Float) (kept cells' : List ℕ) : Type 0 where
  pub formed : Formed g
  pub few : (parts.previous.pairs ≤ 12) × (parts.own.pairs ≤ 12) × (parts.next.pairs ≤ 12)
  pub previous_long : Beside parts.own parts.previous
  pub next_long : Beside parts.own parts.next
  pub own_long : length parts.own.luma ≡ 6 * (g.width * g.height)
  pub first_long : length parts.own.chroma.0 ≡ 2 * (g.chroma_width * g.chroma_height)
  pub second_long : length parts.own.chroma.1 ≡ 2 * (g.chroma_width * g.chroma_height)
  pub work : Sound models kept cells' g.width g.height

-- the models that are kept, and the cover with its distances
pub record Modelled (parts : Parts) (g : Sizes) (s : Settings) (models : List Float) (cells' : List ℕ) : Type 0 where
  pub models_are : model_slice models (g.width * g.height) ≡ kept_models (rough_of parts g s) (g.width, g.height)
  pub cover_is : cells' ≡ distances (cover (rough_of parts g s) (g.width, g.height)) (cells g.width)

-- what fit answers and leaves: the work slices are free where `frees_work` says so
pub record FitAnswered (c : FitCall) (models : List Float) (kept cells' : List ℕ) (luma first second : List ℤ) (r : Result Unit Refusal) : Type 0 where
  pub answer : numbered r ≡ fit_refusal c
  pub slices : Stored (fit_leaves c) luma first second
  pub models_stay : frees_work (numbered r) ≡ false → models ≡ c.models
  pub kept_stays : frees_work (numbered r) ≡ false → kept ≡ c.kept
  pub cover_stays : frees_work (numbered r) ≡ false → cells' ≡ c.cover
