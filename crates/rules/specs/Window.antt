-- "Window": what is found at one luma pixel, among three trials.
use Rattle.std.specs.Prelude.{◌&&◌, ◌||◌, ◌∷◌, ◌+◌, ◌*◌, ◌/◌, ◌%◌}
use Rattle.rules.specs.Words.{Bool, true, false, cond, not, List, [], ℕ, eqb, get_or, Float, nan, Best, Trial, All, PreviousOwn, OwnNext, Found, At, Nothing}
use Rattle.rules.specs.Literals.{0·0, 1·15, 1·7, 2·0, 4·0}
use Rattle.rules.specs.Float.{◌⊕◌, ◌⊖◌, ◌⊗◌, ◌⊘◌, ◌≺◌, ◌≼◌, float}
use Rattle.rules.specs.Forms.{Part, Parts}
use Rattle.rules.specs.Model.{◌‼◌, model, error, set, is_plain, Fitted, unfitted}

-- ---- trials

-- "n = 2 times its pairs"
abbrev pub count : Part → Float
count p = float (p.pairs * 2)

-- "0 marks an absent neighbour"
abbrev pub present : Part → Bool
present p = not (eqb p.pairs 0)

-- whether a trial has the previous part in it, and the next
abbrev pub has_previous : Trial → Bool
has_previous All = true
has_previous PreviousOwn = true
has_previous OwnNext = false

abbrev pub has_next : Trial → Bool
has_next All = true
has_next PreviousOwn = false
has_next OwnNext = true

-- a total with one number more, or passed over
abbrev pub plus : Bool → (total term : Float) → Float
plus b total term = cond b (total ⊕ term) total

-- "Each totals the sums in part order from 0.0", "absent parts are passed over"
unfoldable pub total : Parts → Trial → (Part → Float) → Float
total parts trial term =
    let before = plus (has_previous trial && present parts.previous) 0·0 (term parts.previous) in
    plus (has_next trial && present parts.next) (before ⊕ term parts.own) (term parts.next)

-- sum k of luma pixel `at`
abbrev pub sum : (at k : ℕ) → Part → Float
sum at k p = get_or p.luma (at * 6 + k) nan

-- f 0 to f 5
abbrev pub six : (ℕ → Float) → List Float
six f = f 0 ∷ f 1 ∷ f 2 ∷ f 3 ∷ f 4 ∷ f 5 ∷ []

-- a part's six sums
abbrev pub sums : ℕ → Part → List Float
sums at p = six (λ k. sum at k p)

-- a trial's six totals
abbrev pub totals : Parts → Trial → ℕ → List Float
totals parts trial at = six (λ k. total parts trial (sum at k))

-- a trial's model, with its error on the own part
unfoldable pub tried : Parts → (at : ℕ) → (limit : Float) → (strict : Bool) → Trial → Best
tried parts at limit strict trial =
    let t = totals parts trial at in
    let m = model t (total parts trial count) limit strict in
    record { model = m; error = error (sums at parts.own) (count parts.own) m; trial = trial; seen = t ‼ 5 }

-- "A later trial replaces the best only if e times 1.15 plus 2.0 is below it."
unfoldable pub better : (best later : Best) → Best
better best later = cond (later.error ⊗ 1·15 ⊕ 2·0 ≺ best.error) later best

-- the best of the three, in order
unfoldable pub best : Parts → (at : ℕ) → (limit : Float) → (strict : Bool) → Best
best parts at limit strict =
    let trial = tried parts at limit strict in
    better (better (trial All) (trial PreviousOwn)) (trial OwnNext)

-- "same = (fifth own sum - 2 times the fourth + the third) / own n"
unfoldable pub own_same : Parts → ℕ → Float
own_same parts at =
    let t = sums at parts.own in
    (t ‼ 4 ⊖ 2·0 ⊗ t ‼ 3 ⊕ t ‼ 2) ⊘ count parts.own

-- "the best is found if e < 1.7 times same + 4.0, it isn't (1, 0), and its total[5] is at least the evidence figure"
unfoldable pub found : (same evidence : Float) → Best → Found
found same evidence b =
    cond ((b.error ≺ 1·7 ⊗ same ⊕ 4·0) && not (is_plain b.model) && (evidence ≼ b.seen)) (At b.model b.trial) Nothing

-- the Rust's `pick`
unfoldable pub pick : Parts → (at : ℕ) → (limit evidence : Float) → (strict : Bool) → Found
pick parts at limit evidence strict = found (own_same parts at) evidence (best parts at limit strict)

-- "where `set` holds of a neighbour part's strict model"
abbrev pub strictly_set : (at : ℕ) → (limit : Float) → Part → Bool
strictly_set at limit p = present p && set (model (sums at p) (count p) limit true)

-- what was found, or else the other
abbrev pub or_else : Found → Found → Found
or_else (At m t) other = At m t
or_else Nothing other = other

-- "Strict: the strict pick first; if none, the plain pick, only where" a neighbour is strictly set
unfoldable pub window : Parts → (at : ℕ) → (limit evidence : Float) → (strict : Bool) → Found
window parts at limit evidence strict =
    let near = strictly_set at limit parts.previous || strictly_set at limit parts.next in
    let second = cond near (pick parts at limit evidence false) Nothing in
    cond strict (or_else (pick parts at limit evidence true) second) (pick parts at limit evidence false)

-- the chroma pixel of luma pixel `at`
abbrev pub chroma_at : (width ratio at : ℕ) → ℕ
chroma_at width ratio at = at / width / ratio * (width / ratio) + at % width / ratio

-- "(second total - gain times first) / n, totalled over its trial's parts at its chroma pixel"
unfoldable pub chroma_offset : Parts → Trial → (gain : Float) → (plane : Part → List Float) → (spot : ℕ) → Float
chroma_offset parts trial gain plane spot =
    let first = total parts trial (λ p. get_or (plane p) (spot * 2) nan) in
    let second = total parts trial (λ p. get_or (plane p) (spot * 2 + 1) nan) in
    (second ⊖ gain ⊗ first) ⊘ total parts trial count

-- "where nothing is found the pixel is passed over as (1, 0)"; `spot` is its chroma pixel
unfoldable pub fitted : Parts → (spot : ℕ) → Found → Fitted
fitted parts spot (At m trial) =
    record {
      model = m;
      chroma = (chroma_offset parts trial m.gain (λ p. p.chroma.0) spot, chroma_offset parts trial m.gain (λ p. p.chroma.1) spot);
    }
fitted parts spot Nothing = unfitted
