-- "Reading": what a lent layer and a byte plane hold at a pixel, and between pixels.
use Rattle.rules.specs.Words.{Bool, false, cond, not, ℕ, eqb, ℤ, pos, get_or, Float, Reply, Model, Gain, Offset}
use Rattle.std.specs.Prelude.{min, ◌&&◌, ◌+◌, ◌-◌, ◌*◌, ◌/◌}
use Rattle.std.specs.Float.Ieee as Ieee
use Rattle.rules.specs.Literals.{0·0, 8·0, 64·0, 4096·0}
use Rattle.rules.specs.Float.{◌⊕◌, ◌⊖◌, ◌⊗◌, ◌⊘◌, float, signed, cut, clamp, mix}
use Rattle.rules.specs.Forms.{Plane, Fit, Layer, plane_ratio, plane_size, all, scan, cells, is_number, uncounted}
use Rattle.rules.specs.Refusals.{empty_refusal}

-- what fit stored, read as the layer that it left, the Rust's `Fit::layer`: its own pitches are its rows' widths
abbrev pub as_left : Fit → (size : ℕ × ℕ) → (ratio : ℕ) → Layer
as_left f size ratio =
    record { luma = f.luma; chroma = f.chroma; pitch = (size.0, size.0 / ratio); size = size; ratio = ratio }

-- the stored number of the cell in column x and row y: "the second half of a slice begins at entry pitch times rows"
abbrev pub cell : Layer → (x y : ℕ) → ℤ
cell l x y = get_or l.chroma.1 ((l.size.1 / l.ratio + y) * l.pitch.1 + x) (pos 0)

-- the distance stored for a pixel of a plane, that of its cell: "A pixel's cell is its column and row divided by the
-- cell side, 8, 4 or 2, both cut." A cell is 8 luma pixels wide.
unfoldable pub distance : Layer → (plane x y : ℕ) → ℤ
distance l plane x y =
    let side = 8 / plane_ratio l plane in
    cell l (x / side) (y / side)

-- "gap = 8 times distance - 8"
unfoldable pub gap : Layer → (plane x y : ℕ) → Float
gap l plane x y = signed (distance l plane x y) ⊗ 8·0 ⊖ 8·0

-- "`empty`: no cell is 0."
unfoldable pub empty : Layer → Bool
empty l = all (cells l.size.1) (λ y. all (cells l.size.0) (λ x. not (is_number (cell l x y) 0)))

-- "`empty` adds a yes or no, no when refused"
abbrev pub empty_answer : Layer → Reply
empty_answer l = record { answer = uncounted (empty_refusal l); yes = cond (eqb (empty_refusal l) 0) (empty l) false }

-- the stored gain of luma pixel (x, y)
abbrev pub luma_gain : Layer → (x y : ℕ) → Gain
luma_gain l x y = record { 0 = get_or l.luma (y * l.pitch.0 + x) (pos 0) }

-- and its stored offset
abbrev pub luma_offset : Layer → (x y : ℕ) → Offset
luma_offset l x y = record { 0 = get_or l.luma ((l.size.1 + y) * l.pitch.0 + x) (pos 0) }

-- the stored offset of pixel (x, y) of plane 1 or 2
abbrev pub stored_chroma : Layer → (plane x y : ℕ) → Offset
stored_chroma l plane x y =
    record { 0 = get_or (cond (eqb plane 1) l.chroma.0 l.chroma.1) (y * l.pitch.1 + x) (pos 0) }

-- "chroma averages the ratio² gains in f32": their total, row by row
unfoldable pub gain_total : Layer → (x y : ℕ) → Float
gain_total l x y =
    let r = l.ratio in
    scan (λ dx dy t. t ⊕ signed (luma_gain l (x * r + dx) (y * r + dy)).0) (r, r) 0·0

-- "Texel: luma gain/4096 and offset/64"
unfoldable pub luma_texel : Gain → Offset → Model
luma_texel g o = record { gain = signed g.0 ⊘ 4096·0; offset = signed o.0 ⊘ 64·0 }

-- and chroma's, of the total of ratio² gains
unfoldable pub chroma_texel : (ratio : ℕ) → (total : Float) → Offset → Model
chroma_texel ratio total o = record { gain = total ⊘ (float (ratio * ratio) ⊗ 4096·0); offset = signed o.0 ⊘ 64·0 }

-- the model of a pixel
unfoldable pub texel : Layer → (plane x y : ℕ) → Model
texel l plane x y =
    cond (eqb plane 0)
    (luma_texel (luma_gain l x y) (luma_offset l x y))
    (chroma_texel l.ratio (gain_total l x y) (stored_chroma l plane x y))

-- a mix of two models
abbrev pub mix_models : Model → Model → Float → Model
mix_models a b t = record { gain = mix a.gain b.gain t; offset = mix a.offset b.offset t }

-- the column or row after k, "with the last column and row repeated"
abbrev pub after : (k size : ℕ) → ℕ
after k size = min (k + 1) (size - 1)

-- a coordinate held to the plane
abbrev pub held_to : (x : Float) → (size : ℕ) → Float
held_to x size = clamp x 0·0 (float (size - 1))

-- what is left of x beyond the whole number below it
abbrev pub fraction : Float → Float
fraction x = x ⊖ float (cut x)

-- "`model` and `sample` mix along the row first": the model between four pixels
unfoldable pub mixed_model : Layer → (plane : ℕ) → (x y : Float) → Model
mixed_model l plane x y =
    let size = plane_size l plane in
    let row : ℕ → Model = λ k. mix_models (texel l plane (cut x) k) (texel l plane (after (cut x) size.0) k) (fraction x) in
    mix_models (row (cut y)) (row (after (cut y) size.1)) (fraction y)

-- the Rust's `Layer::model`: at a whole point its texel
unfoldable pub model_at : Layer → (plane : ℕ) → (x y : Float) → Model
model_at l plane x y =
    cond (Ieee.eq (fraction x) 0·0 && Ieee.eq (fraction y) 0·0) (texel l plane (cut x) (cut y)) (mixed_model l plane x y)

-- the byte of pixel (x, y)
abbrev pub byte : Plane → (x y : ℕ) → ℕ
byte p x y = get_or p.bytes (y * p.pitch + x) 0

-- and as a float
abbrev pub at : Plane → (x y : ℕ) → Float
at p x y = float (byte p x y)

-- the Rust's `sample`: the plane between four pixels
unfoldable pub sample : Plane → (x y : Float) → (size : ℕ × ℕ) → Float
sample p x y size =
    let row : ℕ → Float = λ k. mix (at p (cut x) k) (at p (after (cut x) size.0) k) (fraction x) in
    mix (row (cut y)) (row (after (cut y) size.1)) (fraction y)
