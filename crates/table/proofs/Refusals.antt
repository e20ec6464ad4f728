-- Tables of refusals: row by row, and the last row. Assumes nothing.
use mathlib.Core.Path.{◌≡◌, refl, sym}
use mathlib.Core.Bool.{Bool, true, false, not, cond}
use mathlib.Core.List.{[], ◌∷◌, ◌++◌}
use Prim.Native.Nat.{ℕ}
use borrow.Author.Tests.{not-true}
use lib.Dec.{eqb}
use Rattle.std.proofs.lemmas.Bool.{and_parts}
use Rattle.rules.specs.Refusals.{Table, ◌unless◌, first_fitting}
use Rattle.laws.proofs.Accepted.{numbered}

-- a row, as `unless` gives it, before a table that is done
pub row : {a right : Bool} (n : ℕ) {u v : ℕ} (rows : Table) → u ≡ cond (not a) n v → a ≡ right → v ≡ first_fitting rows → u ≡ first_fitting ((n unless right) ∷ rows)
unfolding first_fitting
row n rows e f g = rw (e, f, g)

-- ---- the last row

-- the number with the last row, which gives `last` unless `right`
abbrev pub after : (last : ℕ) → (right : Bool) → (number : ℕ) → ℕ
after last right number = cond (eqb number 0) (cond (not right) last 0) number

pub late : (rows : Table) → numbered rows ≡ true → (last : ℕ) (right : Bool) → first_fitting (rows ++ ((last unless right) ∷ [])) ≡ after last right (first_fitting rows)
unfolding first_fitting
late [] e last right = refl
late (row ∷ rest) e last right =
    let t = and_parts (not (eqb row.0 0)) (numbered rest) e in
    first row.1 row.0 _ _ last right (not-true (eqb row.0 0) t.0) (late rest t.1 last right)
  where
    first : (fits : Bool) (n all rest last : ℕ) (right : Bool) → eqb n 0 ≡ false → all ≡ after last right rest → cond fits n all ≡ after last right (cond fits n rest)
    first true n all rest last right q h = sym (rw q)
    first false n all rest last right q h = h
