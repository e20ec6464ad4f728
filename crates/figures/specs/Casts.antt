-- Figures of strong colour casts (02): totals at the ends of the range and beyond them, and a clip that is fitted.
use Rattle.std.specs.Prelude.{◌≡◌, false, List, [], ◌∷◌, ◌++◌, ℤ, pos, negsuc, replicate, Float}
use Rattle.rules.specs.Forms.{Part}
use Rattle.rules.specs.Literals.{lit, 0·0, 1·0, 4·0, 4096·0}
use Rattle.rules.specs.Float.{float}
use Rattle.rules.specs.Calls.{FitCall, AssembleCall}
use Rattle.rules.specs.Refusals.{assemble_refusal, fit_refusal}
use Rattle.rules.specs.Assembly.{assemble_leaves}
use Rattle.rules.specs.Fit.{fit_leaves}
use Rattle.figures.specs.Others.{four_offsets, no_part}

-- ---- assemble: plane 1 has the offsets and plane 2 has none, so its entries are 0 and the cell, 9

-- offsets 512.0, 512.0, 512.0 and one more, with either sign: the first three make 24576 and -24576
abbrev pub above : (last : Float) → AssembleCall
above last = four_offsets (lit 0x4400_0000) (lit 0x4400_0000) (lit 0x4400_0000) last

abbrev pub below : (last : Float) → AssembleCall
below last = four_offsets (lit 0xc400_0000) (lit 0xc400_0000) (lit 0xc400_0000) last

-- what is stored in plane 1
abbrev pub first : AssembleCall → List ℤ
first c = (assemble_leaves c).chroma.0

-- the last makes the total 32767 (511.9375), 32768 (512.0), -32768 (-512.0) or -32769 (-512.0625)
abbrev pub Ends : Type 0
Ends =
    (first (above (lit 0x43ff_f800)) ≡ pos 32767 ∷ pos 0 ∷ []) × (first (above (lit 0x4400_0000)) ≡ pos 32767 ∷ pos 0 ∷ [])
    × (first (below (lit 0xc400_0000)) ≡ negsuc 32767 ∷ pos 0 ∷ []) × (first (below (lit 0xc400_0400)) ≡ negsuc 32767 ∷ pos 0 ∷ [])

-- four offsets of 4096.0, each stored as 32767: the total, 131068, is held, and the other plane is as it was
abbrev pub strong : AssembleCall
strong = four_offsets 4096·0 4096·0 4096·0 4096·0

abbrev pub Held : Type 0
Held = (assemble_refusal strong ≡ 0) × (first strong ≡ pos 32767 ∷ pos 0 ∷ []) × ((assemble_leaves strong).chroma.1 ≡ pos 0 ∷ pos 9 ∷ [])

-- 1200.0, 1200.0 leave the range, and -1200.0, -1136.0 bring the total back to 1024: it "is still summed whole first"
abbrev pub Back : Type 0
Back = first (four_offsets (lit 0x4496_0000) (lit 0x4496_0000) (lit 0xc496_0000) (lit 0xc48e_0000)) ≡ pos 1024 ∷ pos 0 ∷ []

-- ---- fit: two by two pixels, all lettering of gain 2

-- the six sums of a pair at each pixel
abbrev pub letter : List Float
letter = 0·0 ∷ 0·0 ∷ float 8184 ∷ float 16384 ∷ float 32802 ∷ float 5 ∷ []

-- their chroma pixel: offsets of 4096.0 in plane 1, of -4096.0 in plane 2
abbrev pub cast_part : Part
cast_part =
    record { luma = letter ++ letter ++ letter ++ letter; chroma = (0·0 ∷ float 8192 ∷ [], 0·0 ∷ lit 0xc600_0000 ∷ []); pairs = 1 }

abbrev pub cast_fit : FitCall
cast_fit =
    record {
      parts = record { previous = no_part; own = cast_part; next = no_part };
      size = (2, 2);
      limit = 1·0;
      evidence = 4·0;
      strict = false;
      ratio = 2;
      models = replicate 16 0·0;
      kept = replicate 4 0;
      cover = 0 ∷ [];
      output = record { luma = replicate 8 (pos 5); chroma = (replicate 2 (pos 5), replicate 2 (pos 5)) };
    }

-- it is fitted, and held at both ends
abbrev pub Cast : Type 0
Cast =
    (fit_refusal cast_fit ≡ 0) × ((fit_leaves cast_fit).luma ≡ replicate 4 (pos 8192) ++ replicate 4 (pos 0))
    × ((fit_leaves cast_fit).chroma.0 ≡ pos 32767 ∷ pos 0 ∷ []) × ((fit_leaves cast_fit).chroma.1 ≡ negsuc 32767 ∷ pos 0 ∷ [])
