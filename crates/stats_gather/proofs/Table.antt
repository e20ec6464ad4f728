-- Sums to which pixels are added one after the other, row by row, are the definition's table.
-- Assumes nothing.
use mathlib.Core.Path.{◌≡◌, sym, ap, ◌∙◌}
use mathlib.Core.List.{List}
use Prim.Native.Nat.{ℕ, zero, suc, ◌+◌, ◌*◌, ◌/◌, ◌%◌, ◌≤◌, ◌<◌}
use native.Mathlib.Nat.{add-zero, add-suc, add_assoc, mul-zero, zero-mul, mul-suc, suc-mul, mul_comm, mul-add}
use native.Mathlib.Omega.{arith}
use lib.Arith.{digits_div, digits_mod}
use lib.ListN.{length, get_or}
use lib.Ieee.{Float, nan}
use Rattle.rules.specs.Forms.{turns, area}
use Rattle.rules.specs.Float.{◌⊕◌}
use Rattle.rules.specs.Stats.{added}
use Rattle.laws.specs.Filled.{filled}
use Rattle.laws.proofs.Filled.{filled_after, filled_more, filled_all}
use Rattle.stats_add.specs.Added.{start_of, one_added, terms_added}
use Rattle.stats_gather.specs.Sums.{run_added, Pass, terms_of, row_added, rows_added}

-- entry j of `many` that belong to p
entry_of : (many p j : ℕ) → j < many → ((many * p + j) / many ≡ p) × ((many * p + j) % many ≡ j)
entry_of many p j h = rw (mul_comm many p) (digits_div p h, digits_mod p h)

module _ (pairs many : ℕ) (f : Pass) (old : List Float) where
  abbrev width : ℕ
  width = f.size.0

  -- what the table holds
  abbrev entry : ℕ → Float
  entry i = start_of pairs (get_or old i nan) ⊕ get_or (terms_of f (i / many % width) (i / many / width)) (i % many) nan

  -- a sum more
  one : (k : ℕ) (l : List Float) (term : Float) → l ≡ filled k entry old → start_of pairs (get_or old k nan) ⊕ term ≡ entry k
      → one_added pairs term k l ≡ filled (suc k) entry old
  one k l term so_far e = rw (so_far, filled_after entry old k k nan (omega arith), e) (filled_more entry old k)

  -- a pixel's first n terms
  pixel : (ts : List Float) (k : ℕ) (l : List Float) → l ≡ filled k entry old
      → ((j : ℕ) → j < many → start_of pairs (get_or old (k + j) nan) ⊕ get_or ts j nan ≡ entry (k + j))
      → (n : ℕ) → n ≤ many → terms_added pairs n ts k l ≡ filled (k + n) entry old
  unfolding terms_added turns
  pixel ts k l so_far e zero h = rw (add-zero k) so_far
  pixel ts k l so_far e (suc n) h =
      rw (add-suc k n) (one (k + n) (terms_added pairs n ts k l) (get_or ts n nan) (pixel ts k l so_far e n (omega arith)) (e n (omega arith)))

  -- a term of pixel (x, y) is the table's
  term : (x y j : ℕ) → x < width → j < many
      → get_or (terms_of f x y) j nan ≡ get_or (terms_of f ((many * (y * width + x) + j) / many % width) ((many * (y * width + x) + j) / many / width)) ((many * (y * width + x) + j) % many) nan
  term x y j h l =
      let e = entry_of many (y * width + x) j l in
      rw (e.0, e.1, digits_mod y h, digits_div y h)

  -- the first n pixels of row y
  row : (y : ℕ) (l : List Float) → l ≡ filled (many * (y * width)) entry old → (n : ℕ) → n ≤ width
      → row_added pairs many f y (many * (y * width)) n l ≡ filled (many * (y * width) + many * n) entry old
  unfolding row_added run_added turns
  row y l so_far zero h = rw (mul-zero many, add-zero (many * (y * width))) so_far
  row y l so_far (suc n) h =
      let k = many * (y * width) + many * n in
      let at : k ≡ many * (y * width + n) = sym (mul-add many (y * width) n) in
      rw (mul-suc many n, ← (add_assoc (many * (y * width)) (many * n) many))
      (pixel (terms_of f n y) k (row_added pairs many f y (many * (y * width)) n l) (row y l so_far n (omega arith))
      (λ j b. rw at (ap (λ (t : Float). start_of pairs (get_or old (many * (y * width + n) + j) nan) ⊕ t) (term n y j (omega arith) b)))
      many (omega arith))

  -- the first n rows
  rows : (n : ℕ) → rows_added pairs many f n old ≡ filled (many * (n * width)) entry old
  unfolding rows_added turns filled
  rows zero = rw (zero-mul width, mul-zero many)
  rows (suc n) =
      rw (suc-mul n width, mul-add many (n * width) width) (row n (rows_added pairs many f n old) (rows n) width (omega arith))

  -- all of them
  pub table : length old ≡ many * area f.size → rows_added pairs many f f.size.1 old ≡ added pairs many old f.first f.second f.motion f.size f.ratio
  unfolding added
  table long =
      rows f.size.1 ∙ ap (λ (n : ℕ). filled (many * n) entry old) (mul_comm f.size.1 width) ∙ filled_all entry old nan (many * area f.size) long
