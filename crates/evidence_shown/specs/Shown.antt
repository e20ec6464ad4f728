-- Demand 3 by example: it is not empty, its bound of 820 is the least, and it would be false of chroma.
use Rattle.std.specs.Prelude.{◌≡◌, false, List, [], ◌∷◌, ◌++◌, ℕ, ◌+◌, ◌*◌, ◌/◌, pos, replicate, Float}
use Rattle.rules.specs.declared.Gain.{Gain}
use Rattle.rules.specs.declared.Offset.{Offset}
use Rattle.rules.specs.Forms.{Layer, absent, cells, area, shrunk}
use Rattle.rules.specs.Literals.{0·0, 1·0, 2·0, 4·0}
use Rattle.rules.specs.Float.{float}
use Rattle.rules.specs.Calls.{FitCall, PeelCall}
use Rattle.rules.specs.Refusals.{fit_refusal}
use Rattle.rules.specs.Reading.{cell}
use Rattle.rules.specs.Peel.{peel_answer, peel_leaves}
use Rattle.calls.specs.Lent.{plane_of, part_of, parts_of, fit_of, fit_call, peel_call}
use Rattle.evidence.specs.Evidence.{FitTwice, layer_left, pair, no_pair, Later, peel_luma, run}

-- ---- the fits

-- six sums of one pair, with means 0, a variance of 4092 before and a covariance of `gain`: the line's gain is gain /
-- 4096; the sixth is the evidence
abbrev pub letter : (gain evidence : ℕ) → List Float
letter gain evidence = 0·0 ∷ 0·0 ∷ float (2 * 4092) ∷ float (2 * gain) ∷ float (2 * (gain * gain / 4092 + 1)) ∷ float evidence ∷ []

-- so many pixels at which nothing is found
abbrev pub blank : ℕ → List Float
blank pixels = replicate (6 * pixels) 0·0

-- a fit of one part, with chroma sums of 0
abbrev pub fit_alone : (luma : List Float) → (size : ℕ × ℕ) → (ratio : ℕ) → (evidence : Float) → FitCall
fit_alone luma size ratio evidence =
    let entries = 2 * area (shrunk size ratio) in
    fit_call (parts_of absent (part_of luma (replicate entries 0·0) (replicate entries 0·0) 1) absent) size.0 size.1 ratio 1·0 evidence false
    (replicate (4 * area size) 0·0) (replicate (area size) 0) (replicate (cells size.0 * cells size.1) 0)
    (fit_of (replicate (2 * area size) (pos 0)) (replicate entries (pos 0)) (replicate entries (pos 0)))

-- such a fit, made with figures 4 and 2, is made twice as demand 3 has it
abbrev pub MadeTwice : Type 0
MadeTwice = (luma : List Float) (size : ℕ × ℕ) (ratio : ℕ) → FitTwice (fit_alone luma size ratio 4·0) (fit_alone luma size ratio 2·0)

abbrev pub BothAccepted : (fit : (evidence : Float) → FitCall) → Type 0
BothAccepted fit = (fit_refusal (fit 4·0) ≡ 0) × (fit_refusal (fit 2·0) ≡ 0)

-- the layers that they leave
abbrev pub first : (fit : (evidence : Float) → FitCall) → Layer
first fit = layer_left (fit 4·0)

abbrev pub second : (fit : (evidence : Float) → FitCall) → Layer
second fit = layer_left (fit 2·0)

-- a stored gain, with offset 0
abbrev pub gain_alone : ℕ → Gain × Offset
gain_alone gain = (record { 0 = pos gain }, record { 0 = pos 0 })

-- ---- a row of ten pixels, peeled

-- bytes 7, peeled of bytes 110
abbrev pub peeled : Later
peeled = peel_luma (plane_of (replicate 10 7) 10) (plane_of (replicate 10 110) 10)

-- lettering with evidence 5 at pixel 0, and with 3 at pixel 9
abbrev pub ends : (evidence : Float) → FitCall
ends = fit_alone (letter 8192 5 ++ blank 8 ++ letter 8192 3) (10, 1) 1

-- pixel 0 is found at both figures, pixel 9 at the second alone, and its cell is nearer then; peel writes one pixel
-- with the first layer and both with the second
pub record NotEmpty : Type 0 where
  pub fits : BothAccepted ends
  pub pairs : (pair (first ends) 0 0 ≡ gain_alone 8192) × (pair (first ends) 9 0 ≡ no_pair)
  pub pairs' : (pair (second ends) 0 0 ≡ gain_alone 8192) × (pair (second ends) 9 0 ≡ gain_alone 8192)
  pub cells : (cell (first ends) 1 0 ≡ pos 1) × (cell (second ends) 1 0 ≡ pos 0)
  pub answers : ((run peeled (first ends)).answer ≡ record { number = 0; count = 1 }) × ((run peeled (second ends)).answer ≡ record { number = 0; count = 2 })
  pub bytes : (run peeled (first ends)).output.bytes ≡ 55 ∷ replicate 9 7
  pub bytes' : (run peeled (second ends)).output.bytes ≡ 55 ∷ replicate 8 7 ++ 55 ∷ []

-- gain 819 with evidence 5 at pixel 0, and lettering with 3 at pixel 4
abbrev pub faint : (evidence : Float) → FitCall
faint = fit_alone (letter 819 5 ++ blank 3 ++ letter 8192 3 ++ blank 5) (10, 1) 1

-- "peel where the stored gain is at least 820": at 819 its byte is filled from pixel 4, and changes with that
pub record BoundNeeded : Type 0 where
  pub fits : BothAccepted faint
  pub pairs : (pair (first faint) 0 0 ≡ gain_alone 819) × (pair (second faint) 0 0 ≡ gain_alone 819)
  pub bytes : (run peeled (first faint)).output.bytes ≡ 110 ∷ replicate 9 7
  pub bytes' : (run peeled (second faint)).output.bytes ≡ 55 ∷ replicate 3 7 ++ 55 ∷ replicate 5 7

-- ---- one block of chroma

-- gains 1.5 and 0.5 in a block of two by two: their average is 1
abbrev pub block : (evidence : Float) → FitCall
block = fit_alone (letter 6144 5 ++ letter 2048 3 ++ blank 2) (2, 2) 2

-- peel of plane 1, its only pixel
abbrev pub chroma : Layer → PeelCall
chroma l = peel_call l 1 (plane_of (7 ∷ []) 1) (plane_of (90 ∷ []) 1)

-- "peel or unpeel of luma": a chroma pixel written with the first layer is not written with the second
pub record LumaAlone : Type 0 where
  pub fits : BothAccepted block
  pub answers : (peel_answer (chroma (first block)) ≡ record { number = 0; count = 1 }) × (peel_answer (chroma (second block)) ≡ record { number = 0; count = 0 })
  pub bytes : (peel_leaves (chroma (first block)) ≡ 80 ∷ []) × (peel_leaves (chroma (second block)) ≡ 7 ∷ [])
