-- The whole pass: which models stay, and the cover. Assumes nothing.
use mathlib.Core.Path.{◌≡◌, refl, sym, ap, ◌∙◌}
use mathlib.Core.Bool.{Bool, true, false, cond}
use mathlib.Core.Logic.{⊎_elim}
use mathlib.Core.List.{List}
use Prim.Native.Nat.{ℕ, zero, suc, ◌*◌, ◌≤◌, ◌<◌}
use native.Mathlib.Nat.{mul_comm}
use native.Mathlib.Omega.{arith}
use borrow.Author.Tests.{eqb-true}
use lib.Dec.{eqb}
use lib.ListN.{length, get_or, replicate, length-set, length-replicate, get_or-replicate}
use lib.Ieee.{Float}
use Rattle.rules.specs.Forms.{turns, scan, cells}
use Rattle.rules.specs.Literals.{0·0, 1·0}
use Rattle.rules.specs.Model.{Fitted, unfitted}
use Rattle.rules.specs.Keeping.{kept, cover, kept_models}
use Rattle.rules.specs.Assembly.{model_slice}
use Rattle.table.specs.Models.{model_at, model_put}
use Rattle.laws.proofs.Lists.{is_table, table_same}
use Rattle.table.proofs.Models.{model_at_lem, put_same, put_other}
use Rattle.table.proofs.Turns.{scan_flat}
use Rattle.table.proofs.Laws.{last}
use Rattle.fit_near.specs.declared.Verdict.{Verdict}
use Rattle.fit_near.specs.declared.Verdict.TheVariants.{Dropped, Unmarked, Marked}
use Rattle.fit_near.specs.Verdict.{verdict_of}
use Rattle.fit_keep.specs.Pass.{step, step_at, reset_step, Sound, Flagged, Kept}
use Rattle.fit_keep.proofs.Verdicts.{is_kept, byte_of, kept_is}
use Rattle.fit_keep.proofs.Pass.{Passed, passed}

-- ---- the models that are not kept

module _ (kept : List ℕ) (models : List Float) (room : 4 * length kept ≤ length models) where
  abbrev reset_at : ℕ → Fitted
  reset_at k = cond (eqb (get_or kept k 0) 2) unfitted (model_at models k)

  reset_is : (k : ℕ) (b : Bool) → eqb (get_or kept k 0) 2 ≡ b → cond b unfitted (model_at models k) ≡ reset_at k
  reset_is k b e = ap (λ (b : Bool). cond b unfitted (model_at models k)) (sym e)

  record Reset (n : ℕ) (s : List Float) : Type 0 where
    long : length s ≡ length models
    past : (k : ℕ) → k < n → model_at s k ≡ reset_at k
    rest : (k : ℕ) → n ≤ k → model_at s k ≡ model_at models k

  more : (n : ℕ) (s : List Float) → Reset n s → n < length kept → Reset (suc n) (reset_step kept n s)
  unfolding reset_step
  more n s done inside = go (eqb (get_or kept n 0) 2) refl
    where
      go : (b : Bool) → eqb (get_or kept n 0) 2 ≡ b → Reset (suc n) (cond b (model_put s n 1·0 0·0 0·0 0·0) s)
      go true e =
          let same = put_same s n 1·0 0·0 0·0 0·0 (omega (arith, done.long)) in
          record {
            long = simp length-set done.long;
            past = λ k h. ⊎_elim (λ q. rw q (same ∙ reset_is n true e)) (λ b. put_other s n 1·0 0·0 0·0 0·0 k (λ q. omega arith) ∙ done.past k b) (last k n h);
            rest = λ k h. put_other s n 1·0 0·0 0·0 0·0 k (λ q. omega arith) ∙ done.rest k (omega arith);
          }
      go false e =
          record {
            long = done.long;
            past = λ k h. ⊎_elim (λ q. rw q (done.rest n (omega arith) ∙ reset_is n false e)) (λ b. done.past k b) (last k n h);
            rest = λ k h. done.rest k (omega arith);
          }

  resets : (n : ℕ) → n ≤ length kept → Reset n (turns (reset_step kept) n models)
  unfolding turns
  resets zero h = record { long = refl; past = λ k q. absurd (omega arith); rest = λ k q. refl }
  resets (suc n) h = more n (turns (reset_step kept) n models) (resets n (omega arith)) (omega arith)

  pub reset_at_lem : (k : ℕ) → k < length kept → model_at (turns (reset_step kept) (length kept) models) k ≡ reset_at k
  reset_at_lem k h = (resets (length kept) (omega arith)).past k h

-- ---- all of it

-- what a kept byte says of a model m: b, that nothing was found there
settled : (b : Bool) (v : Verdict) (m : Fitted) → (b ≡ true → m ≡ unfitted)
    → cond (eqb (cond b 0 (byte_of v)) 2) unfitted m ≡ cond (is_kept v) m unfitted
settled true v m plain = rw (plain refl) (either (is_kept v))
  where
    either : (b : Bool) → unfitted ≡ cond b unfitted unfitted
    either true = refl
    either false = refl
settled false Dropped m plain = refl
settled false Unmarked m plain = refl
settled false Marked m plain = refl

module _ (models : List Float) (kept₀ cover₀ : List ℕ) (width height : ℕ) (sound : Sound models kept₀ cover₀ width height) (flagged : Flagged models kept₀) where
  abbrev rough : List Fitted
  rough = model_slice models (width * height)

  pub kept_whole : (kept' cover' : List ℕ) (models' : List Float)
      → (kept', cover') ≡ scan (step_at rough (width, height)) (width, height) (kept₀, replicate (length cover₀) 255)
      → models' ≡ turns (reset_step kept') (length kept') models → Kept rough (width, height) models' cover'
  unfolding model_slice kept_models cover
  kept_whole kept' cover' models' e f =
      record { models_are = table_same (width * height) _ _ at_each; cover_is = is_table many _ cover' 0 done.cover_long done.cells_are }
    where
      many : ℕ
      many = cells width * cells height

      blank : List ℕ
      blank = replicate (length cover₀) 255

      plain : (k : ℕ) → k < length kept₀ → get_or kept₀ k 0 ≡ 0 → get_or rough k unfitted ≡ unfitted
      plain k h z = model_at_lem models (width * height) k (omega (arith, sound.kept_long)) ∙ flagged k h z

      done : Passed rough (width, height) kept₀ many (width * height) (kept', cover')
      done =
          rw (e, scan_flat (step rough (width, height)) width height (kept₀, blank), mul_comm height width)
          (passed rough (width, height) kept₀ many blank (length-replicate (length cover₀) 255 ∙ sound.cover_long)
          (λ cell h. get_or-replicate (length cover₀) cell 255 0 (omega (arith, sound.cover_long))) plain (width * height) (omega (arith, sound.kept_long)))

      at_each : (k : ℕ) → k < width * height → model_at models' k ≡ cond (kept rough (width, height) k) (get_or rough k unfitted) unfitted
      at_each k h =
          let inside : k < length kept' = omega (arith, done.kept_long, sound.kept_long) in
          let old : k < length kept₀ = omega (arith, sound.kept_long) in
          rw (
            f,
            reset_at_lem kept' models (omega (arith, done.kept_long, sound.kept_long, sound.models_long)) k inside,
            done.past k h,
            model_at_lem models (width * height) k h,
            kept_is rough (width, height) k,
          )
          (settled (eqb (get_or kept₀ k 0) 0) (verdict_of rough (width, height) k) (model_at models k) (λ z. flagged k old (eqb-true _ _ z)))
