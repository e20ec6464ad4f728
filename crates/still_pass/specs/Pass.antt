-- A pass that stores each pixel, and a call without a count: what they leave, and what they ask.
use Rattle.std.specs.Prelude.{◌≡◌, cond, List, ℕ, ◌+◌, ◌-◌, ◌*◌, ◌≤◌, length, Result}
use Rattle.rules.specs.declared.Refusal.{Refusal}
use Rattle.rules.specs.Forms.{Rule, scan_row, scan, stroke}
use Rattle.rules.specs.Refusals.{numbered}

-- the byte that stands at pixel (x, y) after a rule, by the byte that stood there
unfoldable pub put : Rule → (x y old : ℕ) → ℕ
put rule x y old = cond (rule.writes x y) (rule.byte x y old) old

-- the first n columns of row y are passed, step by step
pub record RowScanned {A : Type 0} (step : (x y : ℕ) → A → A) (y n : ℕ) (before after : A) : Type 0 where
  pub done : after ≡ scan_row step y n before

-- the first n rows are
pub record RowsScanned {A : Type 0} (step : (x y : ℕ) → A → A) (width n : ℕ) (before after : A) : Type 0 where
  pub done : after ≡ scan step (width, n) before

-- the first `width` pixels of row y are written by a rule
abbrev pub RowPainted : Rule → (pitch y width : ℕ) → (before after : List ℕ) → Type 0
RowPainted rule pitch = RowScanned (stroke rule pitch)

-- the first `height` rows are
abbrev pub RowsPainted : Rule → (pitch width height : ℕ) → (before after : List ℕ) → Type 0
RowsPainted rule pitch = RowsScanned (stroke rule pitch)

-- what a call answers, and what it leaves in its output
pub record Passed (number : ℕ) (left output : List ℕ) (r : Result Unit Refusal) : Type 0 where
  pub answer : numbered r ≡ number
  pub bytes : output ≡ left

-- the pixels of a plane lie within its bytes
pub record PlaneIn (bytes : List ℕ) (pitch : ℕ) (size : ℕ × ℕ) : Type 0 where
  pub narrow : size.0 ≤ 4096
  pub low : size.1 ≤ 4096
  pub apart : pitch ≤ 65536
  pub inside : (size.1 - 1) * pitch + size.0 ≤ length bytes
