-- Laws of the transform, of its definition alone. Assumes nothing.
use mathlib.Core.Path.{◌≡◌, refl, sym, ap, ◌∙◌}
use mathlib.Core.Logic.{◌↔◌}
use mathlib.Core.Bool.{cond}
use mathlib.Core.List.{List}
use Prim.Native.Nat.{ℕ, ◌*◌, ◌/◌, ◌≤◌, ◌<◌}
use native.Mathlib.Nat.{div-mul-le_self}
use native.Mathlib.Decide.{dec_lt, ℕ_discrete}
use native.Mathlib.Omega.{arith}
use lib.Dec.{ltb}
use lib.ListN.{length, get_or}
use lib.Seq.{ext_get_or}
use borrow.Author.Tests.{lt-ltb, le-ltb}
use Rattle.rules.specs.Distances.{whole, nearest_to, distances}
use Rattle.laws.proofs.Lists.{length-tabulate, get_or-tabulate}
use Rattle.distances.specs.Level.{Level}
use Rattle.distances.proofs.Grid.{chess→, →chess, nearest_own, nearest_smooth, exact}
-- ---- (a) the cells grow with the old ones
pub use Rattle.laws.proofs.Marks.{distances_mono}

-- ---- the definition, cell by cell

pub length-distances : (old : List ℕ) (w : ℕ) → length (distances old w) ≡ length old
unfolding distances
length-distances old w = length-tabulate _ _

distances_at : (old : List ℕ) (w k : ℕ) → k < length old → get_or (distances old w) k 0 ≡ cond (ltb k (whole old w)) (nearest_to old w k) (get_or old k 0)
unfolding distances
distances_at old w k h = get_or-tabulate _ _ k 0 h

pub inside_at : (old : List ℕ) (w k : ℕ) → k < whole old w → get_or (distances old w) k 0 ≡ nearest_to old w k
inside_at old w k h = distances_at old w k (omega (arith, div-mul-le_self (length old) w)) ∙ rw (lt-ltb k (whole old w) h)

-- one list alone has the nearest in the complete rows, and the old tail
pub as_table : (old new : List ℕ) (w : ℕ) → length new ≡ length old → ((k : ℕ) → k < whole old w → get_or new k 0 ≡ nearest_to old w k)
    → ((k : ℕ) → whole old w ≤ k → get_or new k 0 ≡ get_or old k 0) → new ≡ distances old w
as_table old new w same inside tail = ext_get_or 0 new (distances old w) (same ∙ sym (length-distances old w)) (λ k h. go k (omega arith) (dec_lt k (whole old w)))
  where
    go : (k : ℕ) → k < length old → Dec (k < whole old w) → get_or new k 0 ≡ get_or (distances old w) k 0
    go k h (yes l) = inside k l ∙ sym (inside_at old w k l)
    go k h (no l) = tail k (omega arith) ∙ sym (distances_at old w k h ∙ rw (le-ltb k (whole old w) (omega arith)))

-- ---- (b) it alters nothing exactly where the cells are level

unaltered : (old : List ℕ) (w : ℕ) → distances old w ≡ old → Level old w
unaltered old w e i j hi hj t = omega (arith, at i hi, at j hj, nearest_smooth old w i j (chess→ w 1 i j t))
  where
    at : (k : ℕ) → k < whole old w → nearest_to old w k ≡ get_or old k 0
    at k h = sym (inside_at old w k h) ∙ ap (λ (l : List ℕ). get_or l k 0) e

level : (old : List ℕ) (w : ℕ) → ((k : ℕ) → get_or old k 0 ≤ 255) → Level old w → distances old w ≡ old
level old w b l = sym (as_table old old w refl (λ k h. go k h (ℕ_discrete w 0)) (λ k h. refl))
  where
    go : (k : ℕ) → k < whole old w → Dec (w ≡ 0) → get_or old k 0 ≡ nearest_to old w k
    go k h (yes e) = absurd (omega (arith, ap (λ (n : ℕ). length old / n * n) e))
    go k h (no d) = exact old old w (omega arith) (nearest_own old w) (λ i. omega arith) b
        (record { step = λ i j o t. l i j o.0 o.1 (→chess w 1 i j t) }) k h

pub same_exactly : (old : List ℕ) (width : ℕ) → ((k : ℕ) → get_or old k 0 ≤ 255) → (distances old width ≡ old) ↔ Level old width
same_exactly old width small = (unaltered old width, level old width small)
