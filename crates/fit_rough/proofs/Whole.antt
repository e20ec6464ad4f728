-- What the search leaves: the rough models, and a kept byte of 0 where there is none. Assumes nothing.
use mathlib.Core.Path.{◌≡◌, refl, sym, ◌∙◌}
use mathlib.Core.Logic.{⊎_elim}
use mathlib.Core.List.{List}
use Prim.Native.Nat.{ℕ, zero, suc, ◌*◌, ◌≤◌, ◌<◌}
use native.Mathlib.Nat.{mul_comm}
use native.Mathlib.Omega.{arith}
use lib.ListN.{length, get_or, length-set}
use lib.Seq.{get_or-set_same, get_or-set_other}
use lib.Ieee.{Float}
use Rattle.rules.specs.declared.Found.{Found}
use Rattle.rules.specs.declared.Found.TheVariants.{At, Nothing}
use Rattle.rules.specs.Forms.{Parts, turns, scan}
use Rattle.rules.specs.Model.{Fitted, unfitted}
use Rattle.rules.specs.Window.{window, chroma_at, fitted}
use Rattle.rules.specs.Assembly.{model_slice}
use Rattle.fit_trial.specs.declared.Settings.{Settings}
use Rattle.assemble_offsets.specs.declared.Sizes.{Sizes}
use Rattle.table.specs.Models.{model_at}
use Rattle.laws.proofs.Lists.{table_same}
use Rattle.table.proofs.Models.{put_same, put_other}
use Rattle.table.proofs.Turns.{scan_flat}
use Rattle.table.proofs.Laws.{last}
use Rattle.fit_rough.specs.Search.{flag_of, found_put, search, search_at, Searched}

-- a kept byte of 0: nothing was found
none : (parts : Parts) (spot : ℕ) (f : Found) → flag_of f ≡ 0 → fitted parts spot f ≡ unfitted
unfolding fitted
none parts spot (At m t) e = absurd (omega arith)
none parts spot Nothing e = refl

module _ (parts : Parts) (g : Sizes) (settings : Settings) (models : List Float) (kept : List ℕ) (room : 4 * length kept ≤ length models) where
  abbrev found_at : ℕ → Found
  found_at k = window parts k settings.limit settings.evidence settings.strict

  abbrev fitted_at : ℕ → Fitted
  fitted_at k = fitted parts (chroma_at g.width g.ratio k) (found_at k)

  record Past (n : ℕ) (s : List Float × List ℕ) : Type 0 where
    models_long : length s.0 ≡ length models
    kept_long : length s.1 ≡ length kept
    models_are : (k : ℕ) → k < n → model_at s.0 k ≡ fitted_at k
    flags_are : (k : ℕ) → k < n → get_or s.1 k 0 ≡ flag_of (found_at k)

  more : (n : ℕ) (s : List Float × List ℕ) → Past n s → n < length kept → Past (suc n) (search parts g settings n s)
  unfolding search found_put
  more n s past inside =
      let m = fitted_at n in
      let same = put_same s.0 n m.model.gain m.model.offset m.chroma.0 m.chroma.1 (omega (arith, past.models_long)) in
      record {
        models_long = simp length-set past.models_long;
        kept_long = simp length-set past.kept_long;
        models_are = λ k h. ⊎_elim (λ q. rw q same) (λ b. put_other s.0 n m.model.gain m.model.offset m.chroma.0 m.chroma.1 k (λ q. omega arith) ∙ past.models_are k b) (last k n h);
        flags_are = λ k h. ⊎_elim (λ q. rw q (get_or-set_same s.1 n (flag_of (found_at n)) 0 (omega (arith, past.kept_long))))
            (λ b. get_or-set_other s.1 n k (flag_of (found_at n)) 0 (λ q. omega arith) ∙ past.flags_are k b) (last k n h);
      }

  pasts : (n : ℕ) → n ≤ length kept → Past n (turns (search parts g settings) n (models, kept))
  unfolding turns
  pasts zero h = record { models_long = refl; kept_long = refl; models_are = λ k q. absurd (omega arith); flags_are = λ k q. absurd (omega arith) }
  pasts (suc n) h = more n (turns (search parts g settings) n (models, kept)) (pasts n (omega arith)) (omega arith)

  pub searched : length kept ≡ g.width * g.height → (models' : List Float) (kept' : List ℕ)
      → (models', kept') ≡ scan (search_at parts g settings) (g.width, g.height) (models, kept) → Searched parts g settings models' kept'
  unfolding model_slice
  searched long models' kept' e =
      record {
        rough_is = table_same (g.width * g.height) _ _ past.models_are;
        flagged = λ k h z. let b : k < g.width * g.height = omega (arith, past.kept_long) in past.models_are k b ∙ none parts _ (found_at k) (sym (past.flags_are k b) ∙ z);
      }
    where
      past : Past (g.width * g.height) (models', kept')
      past =
          rw (e, scan_flat (search parts g settings) g.width g.height (models, kept), mul_comm g.height g.width)
          (pasts (g.width * g.height) (omega arith))
