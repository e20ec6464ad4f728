-- A call of peel and of unpeel, by its numbers and slices; and what a call over a layer answers and leaves.
use Rattle.std.specs.Prelude.{◌≡◌, List, [], ◌∷◌, ℕ, ◌≤◌, Result, IfOk}
use Rattle.std.specs.Borrow.{Bor}
use Rattle.rules.specs.Calls.{PeelCall, UnpeelCall}
use Rattle.rules.specs.Peel.{peel_answer, peel_leaves}
use Rattle.rules.specs.Unpeel.{unpeel_answer, unpeel_leaves}
use Rattle.rules.specs.Answers.{Answer}
use Rattle.rules.specs.declared.Refusal.{Refusal}
use Rattle.rules.specs.Refusals.{answered}
use Rattle.layer_lent.specs.declared.Shape.{Shape}
use Rattle.layer_lent.specs.Lent.{framed, Held}
use Rattle.layer_refuse.specs.Rows.{peel_by, unpeel_by}

abbrev pub peel_of : Shape → Held → (output : List ℕ) → (raw : Bor (List ℕ)) → (pitch : ℕ) → PeelCall
peel_of s held output raw pitch = peel_by (framed s pitch pitch) held output (raw ∷ raw ∷ [])

abbrev pub unpeel_of : Shape → Held → (output : List ℕ) → (first : Bor (List ℕ)) → (fpitch : ℕ) → (second : Bor (List ℕ)) → (spitch : ℕ) → UnpeelCall
unpeel_of s held output first fpitch second spitch = unpeel_by (framed s fpitch spitch) held output (first ∷ second ∷ [])

-- its answer, and the bytes of its output; a count is at most that of a plane's pixels
pub record PlaneAnswered (answer : Answer) (leaves left : List ℕ) (r : Result ℕ Refusal) : Type 0 where
  pub answer_is : answered r ≡ answer
  pub bytes : left ≡ leaves
  pub few : IfOk r (λ count. count ≤ 16777216)

abbrev pub Peeled : PeelCall → (left : List ℕ) → (r : Result ℕ Refusal) → Type 0
Peeled c left r = PlaneAnswered (peel_answer c) (peel_leaves c) left r

abbrev pub Unpeeled : UnpeelCall → (left : List ℕ) → (r : Result ℕ Refusal) → Type 0
Unpeeled c left r = PlaneAnswered (unpeel_answer c) (unpeel_leaves c) left r
