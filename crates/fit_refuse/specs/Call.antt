-- A call of fit over its slices, and the rows of its table that its pairs answer for.
use Rattle.std.specs.Prelude.{◌&&◌, List, [], ◌∷◌, ℕ, ◌+◌, ◌*◌, leb, get_or, Float}
use Rattle.rules.specs.Forms.{Part, Parts, Fit}
use Rattle.rules.specs.Calls.{FitCall}
use Rattle.rules.specs.Refusals.{Table, ◌unless◌}
use Rattle.calls.specs.Lent.{part_of, parts_of, fit_call}
use Rattle.plane.specs.Slices.{Slices, slice}
use Rattle.fit_refuse.specs.declared.Numbers.{Numbers}

-- part k of the previous, own and next one
abbrev pub part_by : (sums : Slices Float) → (pairs : List ℕ) → (k : ℕ) → Part
part_by sums pairs k = part_of (slice sums (3 * k)) (slice sums (3 * k + 1)) (slice sums (3 * k + 2)) (get_or pairs k 0)

abbrev pub parts_by : (sums : Slices Float) → (pairs : List ℕ) → Parts
parts_by sums pairs = parts_of (part_by sums pairs 0) (part_by sums pairs 1) (part_by sums pairs 2)

-- the call, of these parts
abbrev pub fit_with : Parts → Numbers → List Float → (kept cells' : List ℕ) → Fit → FitCall
fit_with parts n models kept cells' output =
    fit_call parts n.width n.height n.ratio n.settings.limit n.settings.evidence n.settings.strict models kept cells' output

abbrev pub fit_by : (sums : Slices Float) → Numbers → List Float → (kept cells' : List ℕ) → Fit → FitCall
fit_by sums n models kept cells' output = fit_with (parts_by sums n.pairs) n models kept cells' output

-- the last rows of its table: the pairs of its parts
abbrev pub count_rows : (pairs : List ℕ) → Table
count_rows pairs =
    (7 unless leb (get_or pairs 0 0) 12)
    ∷ (7 unless leb 1 (get_or pairs 1 0) && leb (get_or pairs 1 0) 12)
    ∷ (7 unless leb (get_or pairs 2 0) 12)
    ∷ []
