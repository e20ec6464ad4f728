-- One pixel of a model slice.
use Rattle.std.specs.Prelude.{List, ℕ, ◌+◌, ◌*◌, get_or, set, Float}
use Rattle.std.specs.Float.{nan}
use Rattle.rules.specs.Model.{Fitted}

-- its four floats
abbrev pub model_at : List Float → (at : ℕ) → Fitted
model_at s at =
    record {
      model = record { gain = get_or s (at * 4) nan; offset = get_or s (at * 4 + 1) nan };
      chroma = (get_or s (at * 4 + 2) nan, get_or s (at * 4 + 3) nan);
    }

-- a model slice with these four there
abbrev pub model_put : List Float → (at : ℕ) → (gain offset first second : Float) → List Float
model_put s at gain offset first second =
    set (set (set (set s (at * 4) gain) (at * 4 + 1) offset) (at * 4 + 2) first) (at * 4 + 3) second
