-- The paper's other worked figures, and the mistakes that it names, stated of the rules.
use Rattle.std.specs.Prelude.{◌≡◌, true, false, cond, List, [], ◌∷◌, ◌++◌, ℕ, eqb, ℤ, pos, negsuc, get_or, replicate, Float}
use Rattle.std.specs.Float.{nan}
use Rattle.rules.specs.Answers.{Answer}
use Rattle.rules.specs.Forms.{Plane, Part, Layer, tabulate}
use Rattle.rules.specs.Literals.{lit, 0·0, 0·5, 1·0, 2·0, 4·0}
use Rattle.rules.specs.Float.{◌⊕◌, cut, pixel}
use Rattle.rules.specs.Calls.{AssembleCall, UnpeelCall, RenderCall, ApplyCall}
use Rattle.rules.specs.Refusals.{distances_refusal, empty_refusal, hold_refusal, fit_refusal}
use Rattle.rules.specs.Model.{Fitted, unfitted}
use Rattle.rules.specs.Keeping.{near, kept, cover}
use Rattle.rules.specs.Distances.{distances_leaves}
use Rattle.rules.specs.Assembly.{assemble_leaves}
use Rattle.rules.specs.Peel.{layered, peel_answer, peel_leaves}
use Rattle.rules.specs.Unpeel.{unpeel_answer, unpeel_leaves}
use Rattle.rules.specs.Render.{render_answer, render_leaves}
use Rattle.rules.specs.Still.{apply_leaves, hold_leaves}
use Rattle.rules.specs.Host.{numbers, word}
use Rattle.figures.specs.P.{one_pixel, one, peel_one_of, peel_one, accepted}

-- "Distance 2 in P10 writes nothing, count 0."
abbrev pub Beyond : Type 0
Beyond =
    (peel_leaves (peel_one 8192 640 2 110) ≡ 7 ∷ []) × (peel_answer (peel_one 8192 640 2 110) ≡ accepted 0)

-- ---- "Mistakes to shut out"

-- "adding 0.5 and cutting (fails P2)": that would give 1
abbrev pub AddingHalf : Type 0
AddingHalf =
    (cut (lit 0x3eff_ffff ⊕ 0·5) ≡ 1) × (pixel (lit 0x3eff_ffff) ≡ 0)

-- "peeling only cells marked 0": a cell at distance 1, and one at a negative distance, are peeled too
abbrev pub MarkedOnly : Type 0
MarkedOnly =
    (peel_answer (peel_one 8192 640 1 110) ≡ accepted 1) × (layered (one_pixel (pos 8192) (pos 640) (negsuc 8)) 0 0 0 ≡ true)

-- "testing gain below 0.2 before taking its size": gain -2 lifts 110 under offset 150 to 20
abbrev pub SizeFirst : Type 0
SizeFirst =
    peel_leaves (peel_one_of (negsuc 8191) (pos 9600) (pos 1) 110) ≡ 20 ∷ []

-- four offsets of plane 1 in one block of ratio 2
abbrev pub four_offsets : (a b c d : Float) → AssembleCall
four_offsets a b c d =
    record {
      size = (2, 2);
      ratio = 2;
      models = 1·0 ∷ 0·0 ∷ a ∷ 0·0 ∷ 1·0 ∷ 0·0 ∷ b ∷ 0·0 ∷ 1·0 ∷ 0·0 ∷ c ∷ 0·0 ∷ 1·0 ∷ 0·0 ∷ d ∷ 0·0 ∷ [];
      cover = 9 ∷ [];
      output = record { luma = replicate 8 (pos 5); chroma = (replicate 2 (pos 5), replicate 2 (pos 5)) };
    }

-- "clamping partial chroma sums": 1200, 1200, -1200, -1200 leave the range on the way, and give 0
abbrev pub PartialSums : Type 0
PartialSums =
    (assemble_leaves (four_offsets (lit 0x4496_0000) (lit 0x4496_0000) (lit 0xc496_0000) (lit 0xc496_0000))).chroma.0 ≡ pos 0 ∷ pos 0 ∷ []

-- ---- the other worked figures

-- a mask of 2 by 2 cells over one pixel, laid from 10 to 20 at time 1
abbrev pub apply_one : (a b : ℕ) → ApplyCall
apply_one a b =
    record {
      output = one 7;
      frames = record { first = one 10; second = one 20; time = 1·0 };
      size = (1, 1);
      mask = record { bytes = a ∷ b ∷ 0 ∷ 0 ∷ []; width = 2 };
    }

-- "(4 cells: sum 1 no, 2 yes)"
abbrev pub Mixing : Type 0
Mixing =
    (apply_leaves (apply_one 1 0) ≡ 7 ∷ []) × (apply_leaves (apply_one 1 1) ≡ 20 ∷ [])

-- "with one cell, 200 kept, 100 made, mask 128 gives 150"
abbrev pub Holding : Type 0
Holding =
    hold_leaves (record { output = one 100; held = one 200; size = (1, 1); mask = record { bytes = 128 ∷ []; width = 1 } }) ≡ 150 ∷ []

-- a plane of 3 by 3 rough models, one of them set
abbrev pub lone : (at : ℕ) → List Fitted
lone at = tabulate 9 (λ k. cond (eqb k at) (record { model = record { gain = 2·0; offset = 0·0 }; chroma = (0·0, 0·0) }) unfitted)

-- "alone in a corner .. it counts four times and is kept, on an edge twice and is dropped"
abbrev pub Keeping : Type 0
Keeping =
    (near (lone 0) (3, 3) 0 0 ≡ 4) × (kept (lone 0) (3, 3) 0 ≡ true) × (cover (lone 0) (3, 3) ≡ 0 ∷ [])
    × (near (lone 1) (3, 3) 1 0 ≡ 2) × (kept (lone 1) (3, 3) 1 ≡ false) × (cover (lone 1) (3, 3) ≡ 255 ∷ [])

-- 8 by 2, ratio 2, gains 4096 but 0 at (0, 0), offsets and cells 0
abbrev pub hole : Layer
hole =
    record {
      luma = pos 0 ∷ replicate 15 (pos 4096) ++ replicate 16 (pos 0);
      chroma = (replicate 8 (pos 0), replicate 8 (pos 0));
      pitch = (8, 4);
      size = (8, 2);
      ratio = 2;
    }

-- all `b`, but 100 at (4, 0)
abbrev pub spot : (b : ℕ) → Plane
spot b = record { bytes = b ∷ b ∷ b ∷ b ∷ 100 ∷ replicate 11 b; pitch = 8 }

-- points of a ring that coincide once they are held into the plane count again (a decision); counted once they would
-- give 33
abbrev pub Filling : Type 0
Filling =
    peel_leaves (record { layer = hole; plane = 0; output = record { bytes = replicate 16 0; pitch = 8 }; raw = spot 0 }) ≡ 40 ∷ replicate 15 0

-- a filled mean is Lifted (a decision): render of luma (1, 0) gives 40
abbrev pub FilledMean : Type 0
FilledMean =
    get_or (render_leaves (record {
      layer = hole;
      plane = 0;
      output = spot 0;
      frames = record { first = spot 0; second = record { bytes = replicate 16 200; pitch = 8 }; time = 0·5 };
      motion = record {
        forward = (1024 ∷ [], 1024 ∷ []);
        backward = (1022 ∷ [], 1024 ∷ []);
        grid = (1, 1);
        block = (pos 8, pos 8);
        origin = (pos 0, pos 0);
        pel = pos 1;
      };
      algo = pos 2;
    })) 1 0 ≡ 40

-- ---- the examples in the table of refusals

-- the answer of a refused call
abbrev pub refused : ℕ → Answer
refused number = record { number = number; count = 0 }

-- "width 0", "width 5, ratio 2", "width 8, pitch 7", "1 by 1 plane, 0 bytes"
abbrev pub Refusals : Type 0
Refusals =
    (distances_refusal (record { cells = 3 ∷ []; width = 0 }) ≡ 1) × (distances_leaves (record { cells = 3 ∷ []; width = 0 }) ≡ 3 ∷ [])
    × (empty_refusal (record { luma = []; chroma = ([], []); pitch = (5, 2); size = (5, 2); ratio = 2 }) ≡ 2)
    × (empty_refusal (record { luma = []; chroma = ([], []); pitch = (7, 8); size = (8, 1); ratio = 1 }) ≡ 3)
    × (peel_answer (record { layer = one_pixel (pos 8192) (pos 640) (pos 1); plane = 0; output = one 7; raw = record { bytes = []; pitch = 1 } }) ≡ refused 4)

-- "time 1.5", and a NaN
abbrev pub at_time : Float → UnpeelCall
at_time t = record { layer = one_pixel (pos 8192) (pos 640) (pos 1); plane = 0; output = one 40; frames = record { first = one 110; second = one 100; time = t } }

abbrev pub RefusedTimes : Type 0
RefusedTimes =
    (unpeel_answer (at_time (lit 0x3fc0_0000)) ≡ refused 6) × (unpeel_answer (at_time nan) ≡ refused 6) × (unpeel_leaves (at_time nan) ≡ 40 ∷ [])

-- a render of that layer's one pixel, with no motion value or with one in each field
abbrev pub render_one : (field : List ℕ) → (width height : ℕ) → (pel : ℤ) → RenderCall
render_one field width height pel =
    record {
      layer = one_pixel (pos 8192) (pos 640) (pos 1);
      plane = 0;
      output = one 7;
      frames = record { first = one 110; second = one 100; time = 0·5 };
      motion = record {
        forward = (field, field);
        backward = (field, field);
        grid = (width, height);
        block = (pos 8, pos 8);
        origin = (pos 0, pos 0);
        pel = pel;
      };
      algo = pos 0;
    }

-- "pel 0"
abbrev pub RefusedPel : Type 0
RefusedPel = render_answer (render_one (1024 ∷ []) 1 1 (pos 0)) ≡ refused 5

-- lengths come before numbers, and no product wraps: a grid of 2^32 by 2^32 has 2^64 blocks, one of 0 by 5 none;
-- 4097 by 1 has the right length and a wrong side
abbrev pub RefusedGrids : Type 0
RefusedGrids =
    (render_answer (render_one [] 4294967296 4294967296 (pos 1)) ≡ refused 4)
    × (render_answer (render_one [] 0 5 (pos 1)) ≡ refused 5)
    × (render_answer (render_one (replicate 4097 1024) 4097 1 (pos 1)) ≡ refused 5)

-- "a mask width or mask length with no whole step of 1..8": 3 cells over 2 pixels, 9 over 1, none
abbrev pub held_by : (width : ℕ) → (mask : List ℕ) → (mask_width : ℕ) → ℕ
held_by width mask mask_width =
    let two : Plane = record { bytes = 1 ∷ 2 ∷ []; pitch = 2 } in
    hold_refusal (record { output = two; held = two; size = (width, 1); mask = record { bytes = mask; width = mask_width } })

abbrev pub RefusedSteps : Type 0
RefusedSteps = (held_by 2 (replicate 3 0) 3 ≡ 2) × (held_by 1 (replicate 9 0) 9 ≡ 2) × (held_by 1 [] 0 ≡ 2) × (held_by 2 (replicate 4 0) 4 ≡ 0)

-- "own pairs 0"
abbrev pub no_part : Part
no_part = record { luma = replicate 6 0·0; chroma = (replicate 2 0·0, replicate 2 0·0); pairs = 0 }

abbrev pub RefusedPairs : Type 0
RefusedPairs =
    fit_refusal (record {
      parts = record { previous = no_part; own = no_part; next = no_part };
      size = (1, 1);
      limit = 4·0;
      evidence = 2·0;
      strict = false;
      ratio = 1;
      models = replicate 4 0·0;
      kept = 0 ∷ [];
      cover = 0 ∷ [];
      output = record { luma = replicate 2 (pos 0); chroma = (replicate 2 (pos 0), replicate 2 (pos 0)) };
    }) ≡ 7

-- the host: little-endian numbers, an odd byte passed over; count times 256 plus the number
abbrev pub Hosting : Type 0
Hosting =
    (numbers (0 ∷ 32 ∷ 255 ∷ 255 ∷ 9 ∷ []) ≡ pos 8192 ∷ negsuc 0 ∷ []) × (word (peel_answer (peel_one 8192 640 1 110)) ≡ 256)
