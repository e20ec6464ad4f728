-- The whole records of a parcel, one after another: how many it has, and the first of a kind.
use Rattle.std.specs.Prelude.{◌≡◌, cond, List, [], ◌∷◌, ℕ, ◌+◌, ◌≤◌, ◌<◌, length, take, drop, Option, Some, None, Result, Ok, Err, MatchOption}
use Rattle.rules.specs.declared.Refusal.{Refusal}
use Rattle.rules.specs.declared.Refusal.TheVariants.{Cut}
use Rattle.rules.specs.Parcel.{Record, split, records, is_whole, how_often, payload_of}
use Rattle.parcel_records.specs.declared.Piece.{Piece}
use Rattle.parcel_records.specs.declared.Place.{Place}
use Rattle.parcel_records.specs.declared.Records.{Records}

-- the whole records that bytes begin with, and what is behind them
abbrev pub splits : (bytes : List ℕ) → List Record × List ℕ
splits bytes = split (length bytes) bytes

-- a record, as the rules name it
abbrev pub record_of : Piece → Record
record_of p = record { kind = p.kind; payload = p.payload.now }

-- bytes lie in a parcel from a place on
pub record Lies (parcel bytes : List ℕ) (start : ℕ) : Type 0 where
  pub inside : start + length bytes ≤ length parcel
  pub are : bytes ≡ take (length bytes) (drop start parcel)

-- bytes begin with a whole record, whose payload is behind its head, and these are the bytes behind it
pub record Begins (bytes : List ℕ) (p : Piece) (left : List ℕ) : Type 0 where
  pub is : splits bytes ≡ (record_of p ∷ (splits left).0, (splits left).1)
  pub fewer : length left < length bytes
  pub lies : Lies bytes p.payload.now 6
  pub behind : left ≡ drop (6 + length p.payload.now) bytes

-- a call gives none where no byte is left, a refusal where a record is cut short, and then none, and else the first
abbrev pub Gives : (before : Records) → Option (Result Piece Refusal) → (after : Records) → Type 0
Gives before None after = length before.left.now ≡ 0
Gives before (Some (Ok p)) after = Begins before.left.now p after.left.now
Gives before (Some (Err e)) after = (splits before.left.now ≡ ([], before.left.now)) × (e ≡ Cut) × (0 < length before.left.now) × (length after.left.now ≡ 0)

-- how many records there are
abbrev pub count_of : (parcel : List ℕ) → Result ℕ Refusal
count_of parcel = cond (is_whole parcel) (Ok (length (records parcel))) (Err Cut)

-- how often a kind was seen
abbrev pub often_in : Option Place → ℕ
often_in None = 0
often_in (Some p) = p.often

-- a place, with one more record seen, whose payload starts there: the first one stays
abbrev pub noted_of : Option Place → (start : ℕ) → Piece → Place
noted_of None start r = record { often = 1; start = start; payload = r.payload }
noted_of (Some p) start r = record { often = p.often + 1; start = p.start; payload = p.payload }

-- no record is of a kind
pub record Missing (parcel : List ℕ) (kind : ℕ) : Type 0 where
  pub often : how_often kind (records parcel) ≡ 0
  pub payload : payload_of kind (records parcel) ≡ []

-- a place is that of a kind
pub record Placed (parcel : List ℕ) (kind : ℕ) (p : Place) : Type 0 where
  pub some : 1 ≤ p.often
  pub often : p.often ≡ how_often kind (records parcel)
  pub payload : payload_of kind (records parcel) ≡ p.payload.now
  pub lies : Lies parcel p.payload.now p.start

-- ---- on the way through a parcel

-- n records lie before the bytes that are left
pub record Counting (parcel left : List ℕ) (n : ℕ) : Type 0 where
  pub few : n + length left ≤ length parcel
  pub total : n + length (splits left).0 ≡ length (records parcel)
  pub behind : (splits left).1 ≡ (splits parcel).1

-- a place is that of a kind among the records before the bytes that are left, which begin there
pub record Finding (parcel : List ℕ) (kind : ℕ) (p : Option Place) (at : ℕ) (left : List ℕ) : Type 0 where
  pub few : often_in p + length left ≤ length parcel
  pub often : often_in p + how_often kind (splits left).0 ≡ how_often kind (records parcel)
  pub seen : MatchOption p (payload_of kind (records parcel) ≡ payload_of kind (splits left).0) (λ q. (1 ≤ q.often) × (payload_of kind (records parcel) ≡ q.payload.now) × Lies parcel q.payload.now q.start)
  pub here : 0 < length left → left ≡ drop at parcel
