-- The entries of the three slices of a layer, and what storing them asks.
use Rattle.std.specs.Prelude.{◌≡◌, cond, List, ℕ, ◌+◌, ◌-◌, ◌*◌, ◌≤◌, ◌<◌, ltb, eqb, ℤ, pos, length, set, Float}
use Rattle.rules.specs.Forms.{Fit}
use Rattle.rules.specs.Domain.{fit_length, cover_length}
use Rattle.rules.specs.Model.{Fitted}
use Rattle.rules.specs.Assembly.{model_slice, chroma_total, stored_total, cell_entry, luma_entry}
use Rattle.assemble_offsets.specs.declared.Sizes.{Sizes}
use Rattle.assemble_offsets.specs.Sizes.{Formed, ModelsLong}
use Rattle.table.specs.Filled.{Paired}

-- ---- the entries

-- the models of a slice, one for each luma pixel
abbrev pub models_of : List Float → Sizes → List Fitted
models_of models sizes = model_slice models (sizes.width * sizes.height)

-- entry k of each half of a slice is put, as f has it: the second half begins at `behind`
abbrev pub PairPut : (f : ℕ → ℤ) → (behind k : ℕ) → (before after : List ℤ) → Type 0
PairPut f behind k before after = after ≡ set (set before k (f k)) (behind + k) (f (behind + k))

-- what stands at entry j of the second half of plane 1 or 2: "Cells stand in the second half of chroma[1]"
unfoldable pub tail_entry : (cover : List ℕ) → (size : ℕ × ℕ) → (across plane j : ℕ) → ℤ
tail_entry cover size across plane j = cond (eqb plane 1) (pos 0) (cell_entry cover size across j)

-- how many pixels a chroma plane has
abbrev pub points : Sizes → ℕ
points sizes = sizes.chroma_width * sizes.chroma_height

-- entry i of plane 1 or 2
unfoldable pub chroma_entry : List Fitted → (cover : List ℕ) → Sizes → (plane i : ℕ) → ℤ
chroma_entry models cover sizes plane i =
    cond (ltb i (points sizes))
    (stored_total (chroma_total models sizes.width sizes.ratio plane i)).0
    (tail_entry cover (sizes.width, sizes.height) sizes.chroma_width plane (i - points sizes))

-- ---- what is asked

-- a luma pixel lies within both slices
pub record LumaFits (luma : List ℤ) (models : List Float) (pixels at : ℕ) : Type 0 where
  pub inside : at < pixels
  pub models_long : 4 * pixels ≤ length models
  pub luma_long : 2 * pixels ≤ length luma

-- and so do those below hi
pub record RunFits (luma : List ℤ) (models : List Float) (pixels lo hi : ℕ) : Type 0 where
  pub up : lo ≤ hi
  pub inside : hi ≤ pixels
  pub models_long : 4 * pixels ≤ length models
  pub luma_long : 2 * pixels ≤ length luma

-- a cover of so many cells across and down
pub record Covered (cover : List ℕ) (across down : ℕ) : Type 0 where
  pub narrow : across ≤ 4096
  pub low : down ≤ 4096
  pub long : across * down ≤ length cover

-- a cover for these sizes
abbrev pub CoverLong : List ℕ → Sizes → Type 0
CoverLong cover sizes = length cover ≡ cover_length (sizes.width, sizes.height)

-- a slice of plane 1 or 2
abbrev pub ChromaLong : List ℤ → Sizes → Type 0
ChromaLong chroma sizes = length chroma ≡ 2 * points sizes

-- models and a cover that are not refused
pub record Source (sizes : Sizes) (models : List Float) (cover : List ℕ) : Type 0 where
  pub formed : Formed sizes
  pub models_long : ModelsLong models sizes
  pub cover_long : CoverLong cover sizes

-- nor are the slices that are written
pub record Room (luma first second : List ℤ) (sizes : Sizes) : Type 0 where
  pub luma_long : length luma ≡ fit_length (sizes.width, sizes.height)
  pub first_long : ChromaLong first sizes
  pub second_long : ChromaLong second sizes

-- ---- what is left

-- pixels lo to hi of plane 1 or 2
abbrev pub PointsStored : Sizes → List Fitted → (cover : List ℕ) → (plane lo hi : ℕ) → (before after : List ℤ) → Type 0
PointsStored sizes models cover plane lo hi = Paired (chroma_entry models cover sizes plane) (points sizes) lo hi

-- chroma rows lo to hi, and the luma pixels that they span
pub record RowsStored (sizes : Sizes) (models : List Fitted) (cover : List ℕ) (lo hi : ℕ) (luma₀ first₀ second₀ luma first second : List ℤ) : Type 0 where
  pub luma_done : Paired (luma_entry models (sizes.width * sizes.height)) (sizes.width * sizes.height) (lo * (sizes.ratio * sizes.width)) (hi * (sizes.ratio * sizes.width)) luma₀ luma
  pub first_done : PointsStored sizes models cover 1 (lo * sizes.chroma_width) (hi * sizes.chroma_width) first₀ first
  pub second_done : PointsStored sizes models cover 2 (lo * sizes.chroma_width) (hi * sizes.chroma_width) second₀ second

-- the slices hold a layer
pub record Stored (f : Fit) (luma first second : List ℤ) : Type 0 where
  pub luma_is : luma ≡ f.luma
  pub first_is : first ≡ f.chroma.0
  pub second_is : second ≡ f.chroma.1
