-- What the readers of lent parts ask, and what they read of an absent one.
use Rattle.std.specs.Prelude.{cond, List, ℕ, ◌≤◌, length, get_or, Float}
use Rattle.std.specs.Float.{nan}
use Rattle.rules.specs.Literals.{0·0}
use Rattle.rules.specs.Window.{present}
use Rattle.fit_total.specs.declared.Counts.{Counts}
use Rattle.fit_total.specs.declared.Plane.{Plane}
use Rattle.fit_total.specs.Counted.{luma_part}

-- a part that is present has a slice of this length
abbrev pub Long : (pairs : ℕ) → List Float → (size : ℕ) → Type 0
Long pairs s size = 1 ≤ pairs → size ≤ length s

-- the neighbours' slices are as long as the own part's, whose entries can be counted
pub record Alike (c : Counts) (p : Plane) : Type 0 where
  pub before : Long c.previous p.previous.now (length p.own.now)
  pub after : Long c.next p.next.now (length p.own.now)
  pub few : length p.own.now ≤ 134217728

-- entry k of a part that is present
abbrev pub entry_of : (pairs : ℕ) → List Float → (k : ℕ) → Float
entry_of pairs s k = cond (present (luma_part s pairs)) (get_or s k nan) 0·0
