-- What is read of three parts at a pixel.
use Rattle.std.specs.Prelude.{Bool, ◌||◌, List, ℕ, ◌+◌, ◌*◌, get_or, Float}
use Rattle.std.specs.Float.{nan}
use Rattle.rules.specs.declared.Sums.{Sums}
use Rattle.rules.specs.declared.Trial.{Trial}
use Rattle.rules.specs.declared.Trial.TheVariants.{All, PreviousOwn, OwnNext}
use Rattle.rules.specs.Forms.{Parts}
use Rattle.rules.specs.Float.{◌≼◌}
use Rattle.rules.specs.Window.{sum, total, chroma_offset}
use Rattle.fit_total.specs.Alike.{entry_of}
use Rattle.fit_window.specs.declared.Offsets.{Offsets}

-- a part's six sums at a pixel
abbrev pub sums_at : List Float → (at : ℕ) → Sums
sums_at s at =
    record {
      p = get_or s (at * 6 + 0) nan;
      i = get_or s (at * 6 + 1) nan;
      pp = get_or s (at * 6 + 2) nan;
      pi = get_or s (at * 6 + 3) nan;
      ii = get_or s (at * 6 + 4) nan;
      apart = get_or s (at * 6 + 5) nan;
    }

-- those of a neighbour, if it is present
abbrev pub sums_of : (pairs : ℕ) → List Float → (at : ℕ) → Sums
sums_of pairs s at =
    record {
      p = entry_of pairs s (at * 6 + 0);
      i = entry_of pairs s (at * 6 + 1);
      pp = entry_of pairs s (at * 6 + 2);
      pi = entry_of pairs s (at * 6 + 3);
      ii = entry_of pairs s (at * 6 + 4);
      apart = entry_of pairs s (at * 6 + 5);
    }

-- whether the evidence figure is reached by a trial
unfoldable pub shown_of : Parts → (at : ℕ) → (evidence : Float) → Bool
shown_of ps at evidence =
    (evidence ≼ total ps All (sum at 5)) || (evidence ≼ total ps PreviousOwn (sum at 5)) || (evidence ≼ total ps OwnNext (sum at 5))

-- a trial's chroma offsets at a chroma pixel
abbrev pub offsets_of : Parts → Trial → (gain : Float) → (at : ℕ) → Offsets
offsets_of ps trial gain at =
    record {
      first = chroma_offset ps trial gain (λ p. p.chroma.0) at;
      second = chroma_offset ps trial gain (λ p. p.chroma.1) at;
    }
