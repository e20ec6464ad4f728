-- What a call answers, in numbers.
use Rattle.std.specs.Prelude.{Bool, ℕ}

-- the number of its refusal, or 0; and the count of the pixels written
pub record Answer : Type 0 where
  pub number : ℕ
  pub count : ℕ

-- of `empty`: a yes or no besides
pub record Reply : Type 0 where
  pub answer : Answer
  pub yes : Bool
