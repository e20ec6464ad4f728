-- What a call answers, as one number.
use Rattle.std.specs.Prelude.{ℕ, ◌*◌, Result, Ok, Err}
use Rattle.rules.specs.declared.Refusal.{Refusal}
use Rattle.rules.specs.Refusals.{number_of}

-- "count times 256 plus the refusal number", by what an accepted call counts
abbrev pub word_by : {A : Type 0} → (counted : A → ℕ) → Result A Refusal → ℕ
word_by counted (Ok a) = counted a * 256
word_by counted (Err r) = number_of r
