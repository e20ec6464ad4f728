-- What the loops of a pass leave: one pixel, the first pixels of a row, the first rows.
use Rattle.std.specs.Prelude.{◌≡◌, cond, List, ℕ, ◌+◌, ◌*◌, ◌≤◌, set, Option, Some, None}
use Rattle.rules.specs.Forms.{Rule, scan_row, stroke, tally, painted, counted}

-- what a rule does to one pixel: the byte that it writes, if it writes one
unfoldable pub change : Rule → (x y old : ℕ) → Option ℕ
change rule x y old = cond (rule.writes x y) (Some (rule.byte x y old)) None

-- the bytes with that at place k
abbrev pub stamped : Option ℕ → ℕ → List ℕ → List ℕ
stamped None k bytes = bytes
stamped (Some b) k bytes = set bytes k b

-- one more, if it is a byte
abbrev pub tallied : Option ℕ → ℕ → ℕ
tallied None n = n
tallied (Some b) n = n + 1

-- one pixel is changed and counted
pub record Stamped (before : List ℕ) (k : ℕ) (d : Option ℕ) (count : ℕ) (after : List ℕ) (r : ℕ) : Type 0 where
  pub bytes : after ≡ stamped d k before
  pub tally : r ≡ tallied d count

-- the first `width` pixels of row y are painted and counted; `count` was the count before
pub record RowDone (rule : Rule) (pitch y width count : ℕ) (before after : List ℕ) (r : ℕ) : Type 0 where
  pub bytes : after ≡ scan_row (stroke rule pitch) y width before
  pub tally : r ≡ scan_row (tally rule) y width count
  pub few : r ≤ count + width

-- the first `height` rows of a plane are painted and counted
pub record RowsDone (rule : Rule) (width height pitch : ℕ) (before after : List ℕ) (r : ℕ) : Type 0 where
  pub bytes : after ≡ painted rule (width, height) (record { bytes = before; pitch = pitch })
  pub tally : r ≡ counted rule (width, height)
  pub few : r ≤ height * 4096
