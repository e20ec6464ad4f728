-- "Assembly": models and a cover as the numbers of a layer, and the call of assemble.
use Rattle.std.specs.Prelude.{◌&&◌, ◌+◌, ◌-◌, ◌*◌, ◌/◌, ◌%◌, ◌+ℤ◌}
use Rattle.rules.specs.Words.{cond, List, ℕ, ltb, eqb, ℤ, pos, neg_ℤ, lt_z, get_or, Float, nan, Gain, Offset}
use Rattle.rules.specs.Literals.{64·0, 4096·0}
use Rattle.rules.specs.Float.{◌⊘◌, float, stored}
use Rattle.rules.specs.Forms.{Fit, tabulate, scan, cells, area, shrunk, leaves}
use Rattle.rules.specs.Calls.{AssembleCall}
use Rattle.rules.specs.Refusals.{assemble_refusal}
use Rattle.rules.specs.Model.{Fitted, unfitted}
use Rattle.rules.specs.Keeping.{model_of}

-- "Gains are stored in 4096ths and offsets in 64ths"
abbrev pub stored_gain : Float → Gain
stored_gain gain = record { 0 = stored gain 4096·0 }

-- an offset, in 64ths
abbrev pub stored_offset : Float → Offset
stored_offset offset = record { 0 = stored offset 64·0 }

-- "Luma holds all gains, then all offsets."
unfoldable pub luma_entry : List Fitted → (pixels i : ℕ) → ℤ
luma_entry models pixels i =
    let gain = stored_gain (model_of models i).gain in
    let offset = stored_offset (model_of models (i - pixels)).offset in
    cond (ltb i pixels) gain.0 offset.0

-- the offset of plane 1 or 2 at luma pixel `at`
abbrev pub offset_of : List Fitted → (plane at : ℕ) → Float
offset_of models plane at = cond (eqb plane 1) (get_or models at unfitted).chroma.0 (get_or models at unfitted).chroma.1

-- "the whole-number sum over its luma pixels of the rounded offset/ratio²", at entry k of a chroma plane
unfoldable pub chroma_total : List Fitted → (width ratio plane k : ℕ) → ℤ
chroma_total models width ratio plane k =
    let across = width / ratio in
    let term : ℕ → ℤ = λ at. (stored_offset (offset_of models plane at ⊘ float (ratio * ratio))).0 in
    scan (λ dx dy t. t +ℤ term ((k / across * ratio + dy) * width + (k % across * ratio + dx))) (ratio, ratio) (pos 0)

-- 02: "A chroma total outside the range is now held to -32768 or 32767. The total is still summed whole first."
unfoldable pub stored_total : (total : ℤ) → Offset
stored_total total =
    let least = neg_ℤ (pos 32768) in
    let most = pos 32767 in
    record { 0 = cond (lt_z total least) least (cond (lt_z most total) most total) }

-- entry j of the cells, "one row per chroma row; all other entries there .. are 0"
unfoldable pub cell_entry : (cover : List ℕ) → (size : ℕ × ℕ) → (across j : ℕ) → ℤ
cell_entry cover size across j =
    let x = j % across in
    let y = j / across in
    pos (cond (ltb x (cells size.0) && ltb y (cells size.1)) (get_or cover (y * cells size.0 + x) 0) 0)

-- "Cells stand in the second half of chroma[1]", and "the second half of chroma[0]" is 0
unfoldable pub assembled : List Fitted → (cover : List ℕ) → (size : ℕ × ℕ) → (ratio : ℕ) → Fit
assembled models cover size ratio =
    let pixels = area (shrunk size ratio) in
    let offset : (plane k : ℕ) → Offset = λ plane k. stored_total (chroma_total models size.0 ratio plane k) in
    record {
      luma = tabulate (2 * area size) (luma_entry models (area size));
      chroma = (
        tabulate (2 * pixels) (λ i. cond (ltb i pixels) (offset 1 i).0 (pos 0)),
        tabulate (2 * pixels) (λ i. cond (ltb i pixels) (offset 2 i).0 (cell_entry cover size (size.0 / ratio) (i - pixels))),
      );
    }

-- a model slice: "gain, offset, and the offsets of planes 1 and 2" of each luma pixel
unfoldable pub model_slice : List Float → (pixels : ℕ) → List Fitted
model_slice s pixels =
    tabulate pixels (λ at. record {
      model = record { gain = get_or s (at * 4) nan; offset = get_or s (at * 4 + 1) nan };
      chroma = (get_or s (at * 4 + 2) nan, get_or s (at * 4 + 3) nan);
    })

-- "`assemble` stores any cover bytes"
abbrev pub assemble_leaves : AssembleCall → Fit
assemble_leaves c =
    leaves (assemble_refusal c) (assembled (model_slice c.models (area c.size)) c.cover c.size c.ratio) c.output
