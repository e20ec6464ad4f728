-- The payloads of a parcel and where they lie, and what is told of it before it is read.
use Rattle.std.specs.Prelude.{◌≡◌, List, ℕ, Bool, eqb, Result, IfOk}
use Rattle.rules.specs.declared.Refusal.{Refusal}
use Rattle.rules.specs.Host.{little}
use Rattle.rules.specs.Refusals.{numbered}
use Rattle.rules.specs.Parcel.{records, how_often, payload_of, parcel_size, parcel_ratio, parcel_sizes_refusal}
use Rattle.parcel_records.specs.Steps.{Lies}
use Rattle.parcel_refuse.specs.declared.Head.{Head}
use Rattle.parcel_refuse.specs.declared.Payloads.{Payloads}
use Rattle.parcel_refuse.specs.declared.Places.{Places}
use Rattle.parcel_refuse.specs.declared.Contents.{Contents}

-- a kind is not repeated or missing
abbrev pub is_once : (parcel : List ℕ) → (kind : ℕ) → Bool
is_once parcel kind = eqb (how_often kind (records parcel)) 1

-- the payloads of the six kinds
pub record Held (parcel : List ℕ) (p : Payloads) : Type 0 where
  pub head : payload_of 1 (records parcel) ≡ p.head.now
  pub gains : payload_of 2 (records parcel) ≡ p.gains.now
  pub offsets : payload_of 3 (records parcel) ≡ p.offsets.now
  pub first : payload_of 4 (records parcel) ≡ p.first.now
  pub second : payload_of 5 (records parcel) ≡ p.second.now
  pub cells : payload_of 6 (records parcel) ≡ p.cells.now

-- and their places
pub record AllPlaced (parcel : List ℕ) (p : Payloads) (at : Places) : Type 0 where
  pub head : Lies parcel p.head.now at.head
  pub gains : Lies parcel p.gains.now at.gains
  pub offsets : Lies parcel p.offsets.now at.offsets
  pub first : Lies parcel p.first.now at.first
  pub second : Lies parcel p.second.now at.second
  pub cells : Lies parcel p.cells.now at.cells

-- the numbers of a head
abbrev pub head_of : (head : List ℕ) → Head
head_of head = record { width = little 2 head 0; height = little 2 head 2; ratio = little 2 head 4 }

-- what a parcel that is not refused tells: the head's numbers, its payloads, and their places
pub record Seen (parcel : List ℕ) (c : Contents) : Type 0 where
  pub width : c.head.width ≡ (parcel_size parcel).0
  pub height : c.head.height ≡ (parcel_size parcel).1
  pub ratio : c.head.ratio ≡ parcel_ratio parcel
  pub held : Held parcel c.payloads
  pub placed : AllPlaced parcel c.payloads c.places

-- what is told of any
pub record Surveyed (parcel : List ℕ) (s : Result Contents Refusal) : Type 0 where
  pub number : numbered s ≡ parcel_sizes_refusal parcel
  pub seen : IfOk s (λ c. Seen parcel c)
