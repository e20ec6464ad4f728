-- A list that is stored entry by entry is the table of what is stored; what is not yet stored is as it was.
-- Assumes nothing.
use mathlib.Core.Path.{◌≡◌, refl, ◌∙◌}
use mathlib.Core.Logic.{⊎_elim}
use mathlib.Core.List.{List}
use Prim.Native.Nat.{ℕ, zero, suc, ◌≤◌, ◌<◌}
use native.Mathlib.Nat.{eq-or-lt_of_le}
use native.Mathlib.Omega.{arith}
use lib.ListN.{length, get_or, set, length-set}
use lib.Seq.{get_or-set_same, get_or-set_other}
use Rattle.rules.specs.Forms.{turns, tabulate}
use Rattle.laws.proofs.Lists.{is_table}
use Rattle.laws.specs.Filled.{filled}

module _ {A : Type 0} (f : ℕ → A) (old : List A) where
  pub filled-length : (n : ℕ) → length (filled n f old) ≡ length old
  unfolding filled turns
  filled-length zero = refl
  filled-length (suc n) = length-set (filled n f old) n (f n) ∙ filled-length n

  -- an entry that is not yet stored
  pub filled_after : (n k : ℕ) (d : A) → n ≤ k → get_or (filled n f old) k d ≡ get_or old k d
  unfolding filled turns
  filled_after zero k d h = refl
  filled_after (suc n) k d h = get_or-set_other (filled n f old) n k (f n) d (λ e. absurd (omega arith)) ∙ filled_after n k d (omega arith)

  -- an entry that is
  pub filled_before : (n k : ℕ) (d : A) → k < n → n ≤ length old → get_or (filled n f old) k d ≡ f k
  unfolding filled turns
  filled_before zero k d h room = absurd (omega arith)
  filled_before (suc n) k d h room =
      ⊎_elim (λ e. last (omega arith)) (λ l. earlier (λ e. absurd (omega arith)) (filled_before n k d (omega arith) (omega arith))) (eq-or-lt_of_le h)
    where
      last : k ≡ n → get_or (filled (suc n) f old) k d ≡ f k
      last e = rw e (get_or-set_same (filled n f old) n (f n) d (rw (filled-length n) room))

      earlier : (k ≡ n → ⊥) → get_or (filled n f old) k d ≡ f k → get_or (filled (suc n) f old) k d ≡ f k
      earlier l r = get_or-set_other (filled n f old) n k (f n) d l ∙ r

  -- one entry more
  pub filled_more : (n : ℕ) → set (filled n f old) n (f n) ≡ filled (suc n) f old
  unfolding filled turns
  filled_more n = refl

  -- the whole list
  pub filled_all : A → (n : ℕ) → length old ≡ n → filled n f old ≡ tabulate n f
  filled_all d n e =
      is_table n f (filled n f old) d (filled-length n ∙ e) (λ k h. filled_before n k d h (omega arith))
