-- "Figures to hold the work against": P1 to P14 of the rules, one theorem. proofs/Figures.antt closes it by
-- computation.
use Rattle.std.specs.Prelude.{◌≡◌, [], ◌∷◌, ℕ, ℤ, pos, negsuc}
use Rattle.std.specs.Float.{nan}
use Rattle.rules.specs.Answers.{Answer}
use Rattle.rules.specs.Forms.{Plane, Layer}
use Rattle.rules.specs.Literals.{lit, 0·0, 0·5, 2·5, 8·0}
use Rattle.rules.specs.Float.{pixel}
use Rattle.rules.specs.Calls.{PeelCall, UnpeelCall}
use Rattle.rules.specs.Distances.{distances}
use Rattle.rules.specs.Assembly.{stored_gain, stored_offset}
use Rattle.rules.specs.Reading.{gap}
use Rattle.rules.specs.Peel.{peel_answer, peel_leaves}
use Rattle.rules.specs.Unpeel.{unpeel_leaves}

-- a layer of one pixel, ratio 1
abbrev pub one_pixel : (gain offset distance : ℤ) → Layer
one_pixel gain offset distance =
    record {
      luma = gain ∷ offset ∷ [];
      chroma = (pos 0 ∷ pos 0 ∷ [], pos 0 ∷ distance ∷ []);
      pitch = (1, 1);
      size = (1, 1);
      ratio = 1;
    }

-- a plane of one byte
abbrev pub one : ℕ → Plane
one b = record { bytes = b ∷ []; pitch = 1 }

-- its luma peeled off a raw byte, over a byte 7
abbrev pub peel_one_of : (gain offset distance : ℤ) → (raw : ℕ) → PeelCall
peel_one_of gain offset distance raw = record { layer = one_pixel gain offset distance; plane = 0; output = one 7; raw = one raw }

-- the same, of numbers that are not negative
abbrev pub peel_one : (gain offset distance raw : ℕ) → PeelCall
peel_one gain offset distance raw = peel_one_of (pos gain) (pos offset) (pos distance) raw

-- P10's layer laid back on a byte 40, at time 0.5
abbrev pub unpeel_one : (first second : ℕ) → UnpeelCall
unpeel_one first second =
    record { layer = one_pixel (pos 8192) (pos 640) (pos 1); plane = 0; output = one 40; frames = record { first = one first; second = one second; time = 0·5 } }

-- the answer of an accepted call
abbrev pub accepted : ℕ → Answer
accepted count = record { number = 0; count = count }

-- theorem P
abbrev pub TheoremP : Type 0
TheoremP =
    -- P1 pixel(2.5)=3; P2 pixel(0.49999997)=0; P3 pixel(NaN)=0
    (pixel 2·5 ≡ 3) × (pixel (lit 0x3eff_ffff) ≡ 0) × (pixel nan ≡ 0)
    -- P4 gain 8.0 stores 32767; P5 offset -1/128 stores -1
    × ((stored_gain 8·0).0 ≡ pos 32767) × ((stored_offset (lit 0xbc00_0000)).0 ≡ negsuc 0)
    -- P6, P7, P8: distances of width 4, 2 and 1
    × (distances (0 ∷ 255 ∷ 255 ∷ 255 ∷ []) 4 ≡ 0 ∷ 1 ∷ 2 ∷ 3 ∷ [])
    × (distances (5 ∷ 0 ∷ 9 ∷ []) 2 ≡ 1 ∷ 0 ∷ 9 ∷ [])
    × (distances (3 ∷ 255 ∷ 0 ∷ []) 1 ≡ 2 ∷ 1 ∷ 0 ∷ [])
    -- P9 distance 1 has gap 0, 2 has 8
    × (gap (one_pixel (pos 4096) (pos 0) (pos 1)) 0 0 0 ≡ 0·0) × (gap (one_pixel (pos 4096) (pos 0) (pos 2)) 0 0 0 ≡ 8·0)
    -- P10 raw 110 under gain 8192, offset 640, distance 1 writes 50
    × (peel_leaves (peel_one 8192 640 1 110) ≡ 50 ∷ []) × (peel_answer (peel_one 8192 640 1 110) ≡ accepted 1)
    -- P11 gain 819, offset 0 writes 110; P12 gain 820 writes 255
    × (peel_leaves (peel_one 819 0 1 110) ≡ 110 ∷ []) × (peel_leaves (peel_one 820 0 1 110) ≡ 255 ∷ [])
    -- P13 own 110 and 100 over 40 writes 100; P14 own 110 and 108 writes 109
    × (unpeel_leaves (unpeel_one 110 100) ≡ 100 ∷ []) × (unpeel_leaves (unpeel_one 110 108) ≡ 109 ∷ [])
