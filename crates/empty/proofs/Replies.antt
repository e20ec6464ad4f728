-- A call that is refused, and one that is run. Assumes nothing.
use mathlib.Core.Path.{◌≡◌}
use mathlib.Core.Bool.{Bool, false, cond}
use Prim.Native.Nat.{ℕ}
use lib.Dec.{eqb}
use Rattle.std.specs.Prelude.{Result, Ok, Err}
use Rattle.rules.specs.declared.Refusal.{Refusal}
use Rattle.rules.specs.Forms.{uncounted}
use Rattle.rules.specs.Refusals.{number_of, replied}
use Rattle.laws.proofs.Answered.{number_some}

-- what is answered of a refusal's number and a layer that is empty or not
abbrev pub Replied : (number : ℕ) → (none : Bool) → Result Bool Refusal → Type 0
Replied number none r = replied r ≡ record { answer = uncounted number; yes = cond (eqb number 0) none false }

pub refused : (r : Refusal) (number : ℕ) (none : Bool) → number_of r ≡ number → Replied number none (Err r)
refused r number none e = let t = number_some r in simp (← e, t)

pub ran : (number : ℕ) (none seen : Bool) → 0 ≡ number → seen ≡ none → Replied number none (Ok seen)
ran number none seen z f = simp (← z, f)
