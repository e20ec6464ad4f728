-- An answer as one number. Assumes nothing.
use mathlib.Core.Path.{◌≡◌, ap, ◌∙◌}
use Prim.Native.Nat.{ℕ, ◌+◌, ◌*◌}
use native.Mathlib.Omega.{arith}
use Rattle.rules.specs.Answers.{Answer}
use Rattle.rules.specs.Forms.{uncounted}
use Rattle.rules.specs.Host.{word}

-- with no count it is the number alone
pub alone : (n : ℕ) {a : Answer} {r : ℕ} → a ≡ uncounted n → r ≡ a.number → r ≡ word (uncounted n)
alone n e f = f ∙ ap (λ (a : Answer). a.number) e ∙ none n
  where
    none : (n : ℕ) → n ≡ 0 * 256 + n
    none n = omega arith
