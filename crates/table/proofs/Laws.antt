-- A table is filled entry by entry, in any order. Assumes nothing.
use mathlib.Core.Path.{◌≡◌, refl, ◌∙◌}
use mathlib.Core.Logic.{◌⊎◌, ⊎_elim}
use mathlib.Core.Bool.{Bool, true, false}
use mathlib.Core.List.{List}
use Prim.Native.Nat.{ℕ, suc, ◌+◌, ◌-◌, ◌*◌, ◌≤◌, ◌<◌}
use native.Mathlib.Nat.{eq-or-lt_of_le}
use native.Mathlib.Omega.{arith}
use borrow.Author.Tests.{eqb-true, eqb-false}
use lib.Dec.{eqb}
use lib.IntN.{ℤ, pos}
use lib.ListN.{length, set, length-set}
use lib.Seq.{get_or-set_same, get_or-set_other}
use Rattle.std.proofs.lemmas.Bool.{cases_lt}
use Rattle.rules.specs.Forms.{tabulate}
use Rattle.table.specs.Filled.{Filled, entry_of, Paired}
use Rattle.laws.proofs.Lists.{is_table}

-- ---- one stretch, of any table

-- nothing yet
pub filled_none : {A : Type 0} (f read : ℕ → A) (lo : ℕ) → Filled f read lo lo
filled_none f read lo k low high = absurd (omega arith)

-- the last place, or one before
pub last : (k n : ℕ) → k < suc n → (k ≡ n) ⊎ (k < n)
last k n h = eq-or-lt_of_le (omega arith)

-- one entry more, the others as they were
pub filled_more : {A : Type 0} {f before after : ℕ → A} {lo hi : ℕ} → Filled f before lo hi → after hi ≡ f hi
    → ((k : ℕ) → k < hi → after k ≡ before k) → Filled f after lo (hi + 1)
filled_more {hi = hi} done e same k low high = ⊎_elim (λ q. rw q e) (λ b. same k b ∙ done k low b) (last k hi (omega arith))

-- two stretches, one after the other
pub filled_join : {A : Type 0} {f read : ℕ → A} {lo mid hi : ℕ} → Filled f read lo mid → Filled f read mid hi → Filled f read lo hi
filled_join {mid = mid} a b k low high = ⊎_elim (λ h. a k low h) (λ h. b k h high) (cases_lt k mid)

-- ---- both halves of a slice

-- what f says is stored at place j: there it is so, and what it said of an entry before is so still
module _ (f : ℕ → ℤ) (l : List ℤ) (j : ℕ) (inside : j < length l) where
  there : entry_of (set l j (f j)) j ≡ f j
  there = get_or-set_same l j (f j) (pos 0) inside

  still : (k : ℕ) → entry_of l k ≡ f k → entry_of (set l j (f j)) k ≡ f k
  still k e = go (eqb k j) refl
    where
      go : (t : Bool) → eqb k j ≡ t → entry_of (set l j (f j)) k ≡ f k
      go true q = rw (eqb-true k j q) there
      go false q = get_or-set_other l j k (f j) (pos 0) (eqb-false k j q) ∙ e

pub paired_none : (f : ℕ → ℤ) (half lo : ℕ) (l : List ℤ) → Paired f half lo lo l l
paired_none f half lo l =
    record { first = filled_none _ _ lo; second = filled_none _ _ lo; kept = λ k e. e }

-- an entry more of each half
pub paired_more : {f : ℕ → ℤ} {half lo k : ℕ} {before now after : List ℤ} → Paired f half lo k before now → half + k < length now
    → after ≡ set (set now k (f k)) (half + k) (f (half + k)) → Paired f half lo (k + 1) before after
paired_more {f} {half} {lo} {k} {before} {now} {after} done inside e =
    rw e (record {
      first = λ j low high. ⊎_elim (λ q. rw q (second_still k (there f now k near))) (λ b. kept j (done.first j low b)) (last j k (omega arith));
      second = λ j low high. ⊎_elim (λ q. rw q (there f middle (half + k) far)) (λ b. kept (half + j) (done.second j low b)) (last j k (omega arith));
      kept = λ j q. kept j (done.kept j q);
    })
  where
    middle : List ℤ
    middle = set now k (f k)

    near : k < length now
    near = omega arith

    far : half + k < length middle
    far = rw (length-set now k (f k)) inside

    second_still : (j : ℕ) → entry_of middle j ≡ f j → entry_of (set middle (half + k) (f (half + k))) j ≡ f j
    second_still = still f middle (half + k) far

    kept : (j : ℕ) → entry_of now j ≡ f j → entry_of (set middle (half + k) (f (half + k))) j ≡ f j
    kept j q = second_still j (still f now k near j q)

-- a run of entries more
pub paired_join : {f : ℕ → ℤ} {half lo mid hi : ℕ} {before now after : List ℤ} → Paired f half lo mid before now → Paired f half mid hi now after
    → Paired f half lo hi before after
paired_join {half = half} {mid = mid} a b =
    record {
      first = λ k low high. ⊎_elim (λ h. b.kept k (a.first k low h)) (λ h. b.first k h high) (cases_lt k mid);
      second = λ k low high. ⊎_elim (λ h. b.kept (half + k) (a.second k low h)) (λ h. b.second k h high) (cases_lt k mid);
      kept = λ k e. b.kept k (a.kept k e);
    }

-- all of them: the slice is the table
pub paired_whole : {f : ℕ → ℤ} {half : ℕ} {before after : List ℤ} → Paired f half 0 half before after → length after ≡ 2 * half → after ≡ tabulate (2 * half) f
paired_whole {f} {half} {before} {after} done e = is_table (2 * half) f after (pos 0) e (λ k h. ⊎_elim (λ b. done.first k (omega arith) b) (λ b. upper k b h) (cases_lt k half))
  where
    upper : (k : ℕ) → half ≤ k → k < 2 * half → entry_of after k ≡ f k
    upper k low high =
        let q : half + (k - half) ≡ k = omega arith in
        rw q at (done.second (k - half) (omega arith) (omega arith))
