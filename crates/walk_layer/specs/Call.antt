-- A layer that is taken from a walk, as the call's parameters give it.
use Rattle.std.specs.Prelude.{cond, List, [], ◌∷◌, ℕ, eqb, length, Float}
use Rattle.rules.specs.declared.Walk.{Walk}
use Rattle.rules.specs.Forms.{Slot, Fit}
use Rattle.rules.specs.Calls.{WalkLayerCall}
use Rattle.calls.specs.Lent.{slots_of, walk_layer_call}
use Rattle.plane.specs.Slices.{Slices, at, slice}
use Rattle.fit_trial.specs.declared.Settings.{Settings}
use Rattle.fit_refuse.specs.declared.Numbers.{Numbers}

-- the numbers of fit, of parts of so many pairs
abbrev pub numbers_of : Walk → (pairs : List ℕ) → Settings → Numbers
numbers_of w pairs s = record { width = w.width; height = w.height; ratio = w.ratio; pairs = pairs; settings = s }

-- the slots of nine slices
abbrev pub slots_by : Slices Float → List Slot
slots_by s = slots_of (slice s 0) (slice s 1) (slice s 2) (slice s 3) (slice s 4) (slice s 5) (slice s 6) (slice s 7) (slice s 8)

-- and their lengths, slot by slot
abbrev pub lengths_by : Slices Float → List (List ℕ)
lengths_by s =
    (length (slice s 0) ∷ length (slice s 1) ∷ length (slice s 2) ∷ [])
    ∷ (length (slice s 3) ∷ length (slice s 4) ∷ length (slice s 5) ∷ [])
    ∷ (length (slice s 6) ∷ length (slice s 7) ∷ length (slice s 8) ∷ [])
    ∷ []

-- nine slices in the order of the parts, where the own part lies in this slot of 0, 1 and 2
abbrev pub order_by : Slices Float → (slot : ℕ) → Slices Float
order_by s slot =
    cond (eqb slot 0) (at s 6 ∷ at s 7 ∷ at s 8 ∷ at s 0 ∷ at s 1 ∷ at s 2 ∷ at s 3 ∷ at s 4 ∷ at s 5 ∷ [])
    (cond (eqb slot 1) s (at s 3 ∷ at s 4 ∷ at s 5 ∷ at s 6 ∷ at s 7 ∷ at s 8 ∷ at s 0 ∷ at s 1 ∷ at s 2 ∷ []))

-- the call
abbrev pub taken_by : Walk → Slices Float → Settings → List Float → (kept cells' : List ℕ) → Fit → WalkLayerCall
taken_by w sums s models kept cells' output =
    walk_layer_call w (slots_by sums) s.limit s.evidence s.strict models kept cells' output
