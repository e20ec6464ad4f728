-- What the first pixels of the keeping pass leave in the kept bytes and in the cells. Assumes nothing.
use mathlib.Core.Path.{◌≡◌, refl, sym, ◌∙◌}
use mathlib.Core.Bool.{Bool, true, false, cond, ◌&&◌, ◌||◌}
use mathlib.Core.Logic.{⊎_elim}
use mathlib.Core.List.{List}
use Prim.Native.Nat.{ℕ, zero, suc, ◌≤◌, ◌<◌}
use native.Mathlib.Omega.{arith}
use borrow.Author.Tests.{eqb-true, eqb-false, eq-eqb, ne_eqb}
use lib.Dec.{eqb}
use lib.ListN.{length, get_or, set, length-set}
use lib.Seq.{get_or-set_same, get_or-set_other}
use Rattle.rules.specs.Forms.{turns, any}
use Rattle.rules.specs.Model.{Fitted, unfitted}
use Rattle.rules.specs.Keeping.{cell_of, marks}
use Rattle.table.proofs.Laws.{last}
use Rattle.fit_near.specs.declared.Verdict.{Verdict}
use Rattle.fit_near.specs.declared.Verdict.TheVariants.{Dropped, Unmarked, Marked}
use Rattle.fit_near.specs.Verdict.{verdict_of}
use Rattle.fit_keep.specs.Pass.{marked, step}
use Rattle.fit_keep.proofs.Steps.{step_none, step_some}
use Rattle.fit_keep.proofs.Verdicts.{is_marked, byte_of, marks_is, marks_none}

-- ---- one verdict

marked_is : (v : Verdict) (at cell : ℕ) (s : List ℕ × List ℕ) → marked v at cell s ≡ (set s.0 at (byte_of v), cond (is_marked v) (set s.1 cell 0) s.1)
marked_is Dropped at cell s = refl
marked_is Unmarked at cell s = refl
marked_is Marked at cell s = refl

or_none : (a : Bool) → (a || false) ≡ a
or_none true = refl
or_none false = refl

-- a cell, after another pixel marks cell `here`, or none: a says whether one before did
cell_more : (l : List ℕ) (here cell : ℕ) (b a : Bool) → cell < length l → get_or l cell 0 ≡ cond a 0 255
    → get_or (cond b (set l here 0) l) cell 0 ≡ cond (a || (b && eqb here cell)) 0 255
cell_more l here cell false a inside e = rw (or_none a) e
cell_more l here cell true a inside e = go (eqb here cell) refl
  where
    go : (t : Bool) → eqb here cell ≡ t → get_or (set l here 0) cell 0 ≡ cond (a || t) 0 255
    go true q = rw (eqb-true here cell q) (get_or-set_same l cell 0 0 inside ∙ marked_so a)
      where
        marked_so : (a : Bool) → ◌≡◌ {A = ℕ} 0 (cond (a || true) 0 255)
        marked_so true = refl
        marked_so false = refl
    go false q = rw (or_none a) (get_or-set_other l here cell 0 0 (λ p. eqb-false here cell q (sym p)) ∙ e)

-- ---- the first n pixels

module _ (rough : List Fitted) (size : ℕ × ℕ) (kept₀ : List ℕ) (many : ℕ) where
  -- a pixel's kept byte
  abbrev pub code_of : ℕ → ℕ
  code_of k = cond (eqb (get_or kept₀ k 0) 0) 0 (byte_of (verdict_of rough size k))

  pub record Passed (n : ℕ) (s : List ℕ × List ℕ) : Type 0 where
    pub kept_long : length s.0 ≡ length kept₀
    pub cover_long : length s.1 ≡ many
    pub past : (k : ℕ) → k < n → get_or s.0 k 0 ≡ code_of k
    pub rest : (k : ℕ) → n ≤ k → get_or s.0 k 0 ≡ get_or kept₀ k 0
    pub cells_are : (cell : ℕ) → cell < many → get_or s.1 cell 0 ≡ cond (any n (marks rough size cell)) 0 255

  -- none yet
  start : (cover : List ℕ) → length cover ≡ many → ((cell : ℕ) → cell < many → get_or cover cell 0 ≡ 255) → Passed 0 (kept₀, cover)
  unfolding turns any
  start cover e blank =
      record { kept_long = refl; cover_long = e; past = λ k h. absurd (omega arith); rest = λ k h. refl; cells_are = blank }

  module _ (n : ℕ) (s : List ℕ × List ℕ) (done : Passed n s) (inside : n < length kept₀) where
    code : (b : Bool) → eqb (get_or s.0 n 0) 0 ≡ b → cond b 0 (byte_of (verdict_of rough size n)) ≡ code_of n
    code b e = rw (← done.rest n (omega arith), e)

    -- one more, where nothing was found
    none_more : get_or s.0 n 0 ≡ 0 → get_or rough n unfitted ≡ unfitted → Passed (suc n) s
    unfolding turns any
    none_more e plain =
        record {
          kept_long = done.kept_long;
          cover_long = done.cover_long;
          past = λ k h. ⊎_elim (λ q. rw q (e ∙ code true (eq-eqb _ _ e))) (λ b. done.past k b) (last k n h);
          rest = λ k h. done.rest k (omega arith);
          cells_are = λ cell h. rw (marks_none rough size n cell plain, or_none) (done.cells_are cell h);
        }

    -- and where something was
    some_more : (get_or s.0 n 0 ≡ 0 → ⊥) → Passed (suc n) (marked (verdict_of rough size n) n (cell_of size.0 n) s)
    unfolding turns any
    some_more found =
        let v = verdict_of rough size n in
        let here = cell_of size.0 n in
        rw (marked_is v n here s)
        (record {
          kept_long = length-set s.0 n (byte_of v) ∙ done.kept_long;
          cover_long = long (is_marked v) s.1 here ∙ done.cover_long;
          past = λ k h. ⊎_elim (λ q. rw q (get_or-set_same s.0 n (byte_of v) 0 (omega (arith, done.kept_long)) ∙ code false (ne_eqb _ _ found)))
              (λ b. get_or-set_other s.0 n k (byte_of v) 0 (λ q. omega arith) ∙ done.past k b) (last k n h);
          rest = λ k h. get_or-set_other s.0 n k (byte_of v) 0 (λ q. omega arith) ∙ done.rest k (omega arith);
          cells_are = λ cell h. rw (marks_is rough size n cell) (cell_more s.1 here cell (is_marked v) (any n (marks rough size cell)) (omega (arith, done.cover_long)) (done.cells_are cell h));
        })
      where
        long : (b : Bool) (l : List ℕ) (k : ℕ) → length (cond b (set l k 0) l) ≡ length l
        long true l k = length-set l k 0
        long false l k = refl

    more : (get_or kept₀ n 0 ≡ 0 → get_or rough n unfitted ≡ unfitted) → Passed (suc n) (step rough size n s)
    more plain = go (eqb (get_or s.0 n 0) 0) refl
      where
        go : (b : Bool) → eqb (get_or s.0 n 0) 0 ≡ b → Passed (suc n) (step rough size n s)
        go true e = let z = eqb-true (get_or s.0 n 0) 0 e in rw (← step_none rough size n s z) (none_more z (plain (sym (done.rest n (omega arith)) ∙ z)))
        go false e = let f = eqb-false (get_or s.0 n 0) 0 e in rw (← step_some rough size n s f) (some_more f)

  -- all of them
  pub passed : (cover : List ℕ) → length cover ≡ many → ((cell : ℕ) → cell < many → get_or cover cell 0 ≡ 255)
      → ((at : ℕ) → at < length kept₀ → get_or kept₀ at 0 ≡ 0 → get_or rough at unfitted ≡ unfitted)
      → (n : ℕ) → n ≤ length kept₀ → Passed n (turns (step rough size) n (kept₀, cover))
  unfolding turns
  passed cover e blank plain zero h = start cover e blank
  passed cover e blank plain (suc n) h =
      more n (turns (step rough size) n (kept₀, cover)) (passed cover e blank plain n (omega arith)) (omega arith) (plain n (omega arith))
