-- What an exported call tells, and its number: not 8. Assumes nothing.
use mathlib.Core.Path.{◌≡◌, ap, ◌∙◌}
use mathlib.Core.Bool.{Bool, true, false, cond}
use mathlib.Core.List.{List}
use Prim.Native.Nat.{ℕ, ◌+◌, ◌*◌}
use Rattle.rules.specs.Answers.{Answer}
use Rattle.rules.specs.declared.Sizes.{Sizes}
use Rattle.rules.specs.Forms.{Layer}
use Rattle.rules.specs.Refusals.{empty_refusal}
use Rattle.rules.specs.Host.{reply_word}
use Rattle.rules.specs.Reading.{empty_answer}
use Rattle.told.specs.Told.{Told, ToldThree}
use Rattle.answers.specs.Never.{Other, NotAnswered}
use Rattle.answers.proofs.Never.{never_eight, not_answered}

-- with one slice, and with three
module _ {A : Type 0} {answer : Answer} {r : ℕ} where
  pub told : {leaves left : List A} → Told answer leaves left r → Other answer.number → NotAnswered r
  told t o = not_answered answer.count answer.number r o t.told

  pub three : {luma luma' chroma1' chroma2' : List A} {chroma : List A × List A} → ToldThree answer luma chroma luma' chroma1' chroma2' r → Other answer.number → NotAnswered r
  three t o = not_answered answer.count answer.number r o t.told

-- with a yes or no, as empty
pub reply : (l : Layer) (r : ℕ) → r ≡ reply_word (empty_answer l) → NotAnswered r
reply l r = by (empty_answer l).yes
  where
    by : (yes : Bool) → r ≡ cond yes 256 0 + empty_refusal l → NotAnswered r
    by true e = not_answered 1 (empty_refusal l) r (never_eight.empty l) e
    by false e = not_answered 0 (empty_refusal l) r (never_eight.empty l) e

-- with sizes
pub sizes : (n : ℕ) (r s : Sizes) → r ≡ s → s.word ≡ 0 * 256 + n → Other n → NotAnswered r.word
sizes n r s e w o = not_answered 0 n r.word o (ap (λ (s : Sizes). s.word) e ∙ w)
