-- "One fit, followed down": the window, keeping, distances and assembly, one after the other.
use Rattle.rules.specs.Words.{Bool, List, ℕ, eqb, Found}
use Rattle.rules.specs.Float.{◌⊗◌}
use Rattle.rules.specs.Forms.{Fit, tabulate, cells, area, leaves}
use Rattle.rules.specs.Calls.{FitCall}
use Rattle.rules.specs.Refusals.{fit_refusal}
use Rattle.rules.specs.Model.{Fitted}
use Rattle.rules.specs.Window.{window, chroma_at, fitted}
use Rattle.rules.specs.Keeping.{cover, kept_models}
use Rattle.rules.specs.Distances.{distances}
use Rattle.rules.specs.Assembly.{assembled}

-- the window's answer at each luma pixel, "with limit squared"
unfoldable pub rough : FitCall → List Fitted
rough c =
    let search : ℕ → Found = λ at. window c.parts at (c.limit ⊗ c.limit) c.evidence c.strict in
    tabulate (area c.size) (λ at. fitted c.parts (chroma_at c.size.0 c.ratio at) (search at))

-- what is kept of it
unfoldable pub fit_models : FitCall → List Fitted
fit_models c = kept_models (rough c) c.size

-- the cover, with its distances
unfoldable pub fit_cover : FitCall → List ℕ
fit_cover c = distances (cover (rough c) c.size) (cells c.size.0)

-- what fit stores
unfoldable pub fit_leaves : FitCall → Fit
fit_leaves c = leaves (fit_refusal c) (assembled (fit_models c) (fit_cover c) c.size c.ratio) c.output

-- "fit's work slices are left free after acceptance", and by every refusal they are unchanged
abbrev pub frees_work : (number : ℕ) → Bool
frees_work number = eqb number 0
