-- The round trip of the running calls: what holds of their answers, and of the slices that they leave.
use Rattle.std.specs.Prelude.{◌≡◌, true}
use Rattle.rules.specs.Forms.{Fit, Layer}
use Rattle.rules.specs.Domain.{is_fit}
use Rattle.rules.specs.Parcel.{sizes_answer}
use Rattle.parcel_trip.specs.Trip.{Arrived}
use Rattle.parcel_host.specs.declared.Answers.{Answers}

-- the reader's answers have number 0 and the layer's sizes and ratio, and its slices hold the layer's numbers
pub record ReadAs (l : Layer) (left : Fit) (s : Answers) : Type 0 where
  pub sizes : s.sizes ≡ sizes_answer 0 l.size l.ratio
  pub told : s.read ≡ sizes_answer 0 l.size l.ratio
  pub layer : Arrived l left

-- that is so where the writer answered 0, and the slices lent to the reader had the layer's lengths
abbrev pub SentTold : Layer → (lent left : Fit) → Answers → Type 0
SentTold l lent left s = (s.written ≡ 0 → is_fit lent l.size l.ratio ≡ true → ReadAs l left s)
