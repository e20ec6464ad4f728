-- What is filled: zeros, and the cells behind the offsets of plane 2.
use Rattle.std.specs.Prelude.{◌≡◌, List, ℕ, ◌+◌, ◌*◌, ◌≤◌, ℤ, pos, length}
use Rattle.rules.specs.Forms.{tabulate, cells}
use Rattle.rules.specs.Host.{numbers}
use Rattle.rules.specs.Parcel.{cell_or_zero}
use Rattle.parcel_fill.specs.declared.Marks.{Marks}

-- so many zeros
abbrev pub zeros : ℕ → List ℤ
zeros n = tabulate n (λ k. pos 0)

-- entry j behind the offsets of plane 2
abbrev pub mark_at : (payload : List ℕ) → Marks → (j : ℕ) → ℤ
mark_at payload m j = cell_or_zero (numbers payload) (m.width, m.height) m.across j

-- row y of them
abbrev pub mark_row : (payload : List ℕ) → Marks → (y : ℕ) → List ℤ
mark_row payload m y = tabulate m.across (λ x. mark_at payload m (y * m.across + x))

-- all of them
abbrev pub mark_rows : (payload : List ℕ) → Marks → (rows : ℕ) → List ℤ
mark_rows payload m rows = tabulate (rows * m.across) (mark_at payload m)

-- cells that lie within the rows of a chroma plane, and these within the output
pub record MarksFit (output : List ℤ) (at : ℕ) (payload : List ℕ) (m : Marks) : Type 0 where
  pub wide : (1 ≤ m.across) × (m.across ≤ 4096)
  pub tall : m.rows ≤ 4096
  pub narrow : cells m.width ≤ m.across
  pub long : length payload ≡ 2 * (cells m.width * cells m.height)
  pub room : at + m.rows * m.across ≤ length output

-- a row of them
pub record RowFits (output : List ℤ) (at : ℕ) (payload : List ℕ) (m : Marks) (y : ℕ) : Type 0 where
  pub wide : (1 ≤ m.across) × (m.across ≤ 4096)
  pub low : y ≤ 4096
  pub narrow : cells m.width ≤ m.across
  pub long : length payload ≡ 2 * (cells m.width * cells m.height)
  pub room : at + m.across ≤ length output
