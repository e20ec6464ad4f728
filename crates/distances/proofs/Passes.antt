-- The two passes, from their steps to the call. Assumes nothing.
use mathlib.Core.Path.{◌≡◌, refl, ap, ◌∙◌}
use mathlib.Core.Logic.{inl, inr, ⊎_elim}
use mathlib.Core.List.{List}
use Prim.Native.Nat.{ℕ, zero, suc, ◌+◌, ◌-◌, ◌*◌, ◌/◌, ◌≤◌, ◌<◌, min}
use native.Mathlib.Nat.{div-mul-le_self, mul-le-mul_right}
use native.Mathlib.Omega.{arith}
use lib.ListN.{length, get_or, set, length-set}
use borrow.Author.Tests.{leb-true}
use lib.Dec.{leb}
use mathlib.Core.Bool.{true, false}
use Rattle.std.specs.Prelude.{Ok, Err}
use Rattle.rules.specs.declared.Refusal.TheVariants.{Size}
use Rattle.rules.specs.Calls.{DistancesCall}
use Rattle.rules.specs.Refusals.{first_fitting, distances_refusal}
use Rattle.rules.specs.Distances.{whole, distances}
use Rattle.distances.specs.Call.{DistancesAnswered}
use Rattle.distances.specs.Pass.{lowest_of, Rows, Within, Smooth, Down, Back, Kept, Passed}
use Rattle.distances.proofs.Grid.{spot, nearest_own, exact}
use Rattle.distances.proofs.Laws.{as_table}
use Rattle.distances.proofs.Steps.{Lowered, lowered, ways_before, ways_after, kept_step, down_step, back_step}

-- ---- a part of a pass

pub passed_more : {P Q R : List ℕ → Type 0} {w : ℕ} {a b c : List ℕ} → Passed P Q w a b → Passed Q R w b c → Passed P R w a c
passed_more f g = record {
  same = g.same ∙ f.same;
  leads = λ old k p. let r = f.leads old k p in g.leads old r.0 r.1;
}

-- ---- a turn of each pass

module _ (w x first other left right beside : ℕ) (cells : List ℕ) (v : ℕ) (hx : x < w) (l : left ≡ x - 1) (r : right ≡ min (x + 1) (w - 1))
    (e : v ≡ lowest_of cells (first + x) (other + left) (other + x) (other + right) beside) where
  -- a lowered cell
  turn : (P Q : List ℕ → Type 0) (S : ℕ → Type 0) (y z : ℕ) → Rows w (length cells) y z first other → Lowered S w (whole cells w) cells (first + x) v
      → (first + x < whole cells w → whole cells w ≤ length cells → P cells → Q (set cells (first + x) v))
      → Passed P Q w cells (set cells (first + x) v)
  turn P Q S y z rows L f = record {
    same = length-set cells (first + x) v;
    leads = λ old K p. (kept_step w (whole cells w) cells (first + x) v hi short S L old (ap (λ (k : ℕ). k / w * w) K.same) K, f hi short p);
  }
    where
      hi : first + x < whole cells w
      hi = (spot w (length cells / w) x y (first + x) hx rows.inside (omega arith)).0

      short : whole cells w ≤ length cells
      short = div-mul-le_self (length cells) w

  pub down_turn : Rows w (length cells) (first / w) (first / w - 1) first other → beside ≡ get_or cells (first + left) 0
      → Passed (Down w (first + x)) (Down w (first + (x + 1))) w cells (set cells (first + x) v)
  down_turn rows b =
      let c = spot w (length cells / w) x (first / w) (first + x) hx rows.inside (omega arith) in
      let L = lowered w (length cells) x (first / w) (first / w - 1) first other left right left cells v rows hx (omega arith) (omega arith) (omega arith) l r
      (omega arith) (omega arith) (omega arith) (rw b at e) (λ q. (q < first + x) × Within w 1 (first + x) q)
      (λ q t. (t.1, ⊎_elim (λ a. inl (omega arith)) (λ a. inr (omega arith)) (ways_before w (first + x) q (omega arith) t))) in
      turn _ _ _ _ _ rows L (λ hi short s. down_step w (whole cells w) cells (first + x) v hi short _ (omega arith) L s)

  pub back_turn : Rows w (length cells) (first / w) (min (first / w + 1) (length cells / w - 1)) first other → beside ≡ get_or cells (first + right) 0
      → Passed (Back w (whole cells w) (first + (x + 1))) (Back w (whole cells w) (first + x)) w cells (set cells (first + x) v)
  back_turn rows b =
      let c = spot w (length cells / w) x (first / w) (first + x) hx rows.inside (omega arith) in
      let L = lowered w (length cells) x (first / w) (min (first / w + 1) (length cells / w - 1)) first other left right right cells v rows hx
      (omega arith) (omega arith) (omega arith) l r (omega arith) (omega arith) (omega arith) (rw b at e)
      (λ q. (first + x < q) × (q < whole cells w) × Within w 1 (first + x) q)
      (λ q t. (t.2, ⊎_elim (λ a. inl (omega arith)) (λ a. inr (omega arith)) (ways_after w (length cells / w) (first + x) q (omega arith) t))) in
      turn _ _ _ _ _ rows L (λ hi short s. back_step w (length cells / w) cells (first + x) v hi short rows.wide _ (omega arith) L s)

-- ---- the rows of a pass

-- from one row to the one before it
pub step_back : (w y : ℕ) → 0 < y → (y - 1) * w + w ≡ y * w
step_back w zero h = absurd (omega arith)
step_back w (suc y) h = let d : suc y - 1 ≡ y = omega arith in rw d (omega arith)

-- a row, and the one above it
module _ (w size y : ℕ) (p : 0 < w) (h : y < size / w) where
  begins : y * w / w ≡ y
  begins = (spot w (suc y) 0 y (y * w) p (omega arith) (omega arith)).2

  fits : y * w + w ≤ size
  fits = omega (arith, mul-le-mul_right w h, div-mul-le_self size w)

  pub rows_down : Rows w size (y * w / w) (y * w / w - 1) (y * w) (y * w - w)
  rows_down =
      rw begins (record { wide = p; inside = h; row_is = refl; other_is = up y; row_fits = fits; other_fits = omega (arith, fits) })
    where
      up : (y : ℕ) → y * w - w ≡ (y - 1) * w
      up zero = omega arith
      up (suc y) = let d : suc y - 1 ≡ y = omega arith in rw d (omega arith)

  -- or below it
  pub rows_back : Rows w size (y * w / w) (min (y * w / w + 1) (size / w - 1)) (y * w) (min (y + 1) (size / w - 1) * w)
  rows_back =
      let below : (min (y + 1) (size / w - 1) + 1) * w ≤ size / w * w = mul-le-mul_right w (omega arith) in
      rw begins (record {
        wide = p;
        inside = h;
        row_is = refl;
        other_is = refl;
        row_fits = fits;
        other_fits = omega (arith, below, div-mul-le_self size w);
      })

-- ---- the call

module _ (old : List ℕ) (w : ℕ) where
  abbrev call : DistancesCall
  call = record { cells = old; width = w }

  pub refused : leb 1 w ≡ false → DistancesAnswered call old (Err Size)
  unfolding distances_refusal first_fitting
  refused t = record { answer = simp t; cells = simp t }

  -- both passes make the distances
  pub ran : (mid new : List ℕ) → leb 1 w ≡ true → ((k : ℕ) → get_or new k 0 ≤ 255)
      → Passed (Down w 0) (Down w (whole old w)) w old mid → Passed (Back w (whole mid w) (whole mid w)) (Back w (whole mid w) 0) w mid new → DistancesAnswered call new (Ok tt)
  unfolding distances_refusal first_fitting
  ran mid new t small f g =
      let d : new ≡ distances old w = as_table old new w kept.same (exact old new w z kept.low kept.high small smooth) kept.tail in
      record { answer = simp t; cells = simp (t, d) }
    where
      z : 0 < w
      z = omega (arith, leb-true 1 w t)

      n : ℕ
      n = whole old w

      down : (Kept old w mid) × (Down w n mid)
      down = f.leads old (record { same = refl; low = nearest_own old w; high = λ k. omega arith; tail = λ k h. refl })
          (record { step = λ p q o t. absurd (omega arith) })

      back : (Kept old w new) × (Back w n 0 new)
      back = (rw f.same at g).leads old down.0 (record { step = λ p q o t. down.1.step p q (o.0, ⊎_elim (λ l. absurd (omega arith)) (λ l. l) o.2) t })

      kept : Kept old w new
      kept = back.0

      smooth : Smooth (λ p q. (p < whole old w) × (q < whole old w)) w new
      smooth = record { step = λ p q o t. back.1.step p q (omega arith, omega arith, inl (omega arith)) t }
