-- One call of a parcel's iterator, and what is known behind it. Assumes nothing.
use mathlib.Core.Path.{◌≡◌, sym, ◌∙◌}
use mathlib.Core.List.{List, []}
use Prim.Native.Nat.{ℕ, ◌+◌, ◌-◌, ◌≤◌, ◌<◌}
use native.Mathlib.Omega.{arith}
use borrow.Author.Tests.{le-leb, lt-leb, eq-eqb, ne_eqb}
use lib.ListN.{length, take, drop, length-drop}
use lib.Seq.{drop-drop, get_or-take}
use Rattle.std.specs.Prelude.{Option, Some, None, Ok, MatchOption}
use Rattle.std.specs.List.{IsSplitAt}
use Rattle.rules.specs.Host.{little}
use Rattle.rules.specs.Parcel.{length_at, records, how_often, payload_of}
use Rattle.parcel_records.specs.declared.Piece.{Piece}
use Rattle.parcel_records.specs.declared.Place.{Place}
use Rattle.parcel_records.specs.Steps.{splits, Lies, Begins, count_of, noted_of, Missing, Placed, Counting, Finding}
use Rattle.parcel_records.proofs.Split.{opened}

-- ---- a call

module _ (bytes : List ℕ) where
  -- too few bytes for a head
  pub none_headed : length bytes < 6 → splits bytes ≡ ([], bytes)
  none_headed h = opened bytes ∙ rw (lt-leb 6 (length bytes) h)

  module _ (head rest : List ℕ) (cut : IsSplitAt bytes 6 head rest) where
    length_is : little 4 head 0 ≡ length_at bytes
    length_is = rw (cut.1, get_or-take 6 bytes 0 0 (omega arith), get_or-take 6 bytes 1 0 (omega arith), get_or-take 6 bytes 2 0 (omega arith), get_or-take 6 bytes 3 0 (omega arith))

    kind_is : little 2 head 4 ≡ little 2 bytes 4
    kind_is = rw (cut.1, get_or-take 6 bytes 4 0 (omega arith), get_or-take 6 bytes 5 0 (omega arith))

    -- too few for the payload that it calls for
    pub none_paid : length rest < little 4 head 0 → splits bytes ≡ ([], bytes)
    none_paid h =
        let few : length bytes - 6 < length_at bytes = omega (arith, h, length_is, cut.4) in
        opened bytes ∙ rw (le-leb 6 (length bytes) cut.0, lt-leb (length_at bytes) (length bytes - 6) few)

    -- a whole record
    pub one_begins : (p : Piece) (left : List ℕ) → p.kind ≡ little 2 head 4 → IsSplitAt rest (little 4 head 0) p.payload.now left → Begins bytes p left
    one_begins p left kind s =
        let long : length_at bytes ≤ length bytes - 6 = omega (arith, s.0, length_is, cut.4) in
        let paid : p.payload.now ≡ take (length_at bytes) (drop 6 bytes) = s.1 ∙ rw (length_is, cut.2) in
        let later : left ≡ drop (6 + length_at bytes) bytes = s.2 ∙ rw (length_is, cut.2) (drop-drop (length_at bytes) 6 bytes) in
        record {
          is = opened bytes ∙ rw (le-leb 6 (length bytes) cut.0, le-leb (length_at bytes) (length bytes - 6) long, ← later, ← paid, kind, kind_is);
          fewer = omega (arith, s.4, cut.4);
          lies = record { inside = omega (arith, s.3, length_is, long, cut.0); are = rw (s.3, length_is) paid };
          behind = rw (s.3, length_is) later;
        }

-- ---- counting

module _ (parcel left : List ℕ) (n : ℕ) (c : Counting parcel left n) where
  -- nothing is left
  pub count_end : length left ≡ 0 → Ok n ≡ count_of parcel
  count_end e =
      let s = none_headed left (omega arith) in
      let total : n ≡ length (records parcel) = omega (arith, rw s at c.total) in
      rw (eq-eqb (length (splits parcel).1) 0 (rw (← (rw s at c.behind)) e), total)

-- ---- finding

module _ (parcel : List ℕ) (kind : ℕ) (at : ℕ) (left : List ℕ) where
  module _ (r : Piece) (behind : List ℕ) (b : Begins left r behind) where
    -- its payload is in the parcel, and what is behind it begins where that ends
    pub goes : (p : Option Place) → Finding parcel kind p at left → Lies parcel r.payload.now (at + 6) × (behind ≡ drop (at + 6 + length r.payload.now) parcel)
    goes p f =
        let few : 0 < length left = omega (arith, b.fewer) in
        let here = f.here few in
        let rest : length left ≡ length parcel - at = rw here (length-drop at parcel) in
        let n = length r.payload.now in
        let end : at + (6 + n) ≡ at + 6 + n = omega arith in (
          record { inside = omega (arith, b.lies.inside, rest, few); are = b.lies.are ∙ rw here (rw (drop-drop 6 at parcel)) },
          b.behind ∙ rw here (drop-drop (6 + n) at parcel ∙ rw end),
        )

    -- a record of another kind
    pub find_other : (p : Option Place) → (r.kind ≡ kind → ⊥) → Finding parcel kind p at left → Finding parcel kind p (at + 6 + length r.payload.now) behind
    unfolding how_often payload_of
    find_other p other f =
        let n = ne_eqb r.kind kind other in
        record { few = omega (arith, b.fewer, f.few); often = rw (b.is, n) at f.often; seen = rw (b.is, n) at f.seen; here = λ h. (goes p f).1 }

    -- one of this kind
    pub find_one : (p : Option Place) → r.kind ≡ kind → Finding parcel kind p at left
        → Finding parcel kind (Some (noted_of p (at + 6) r)) (at + 6 + length r.payload.now) behind
    unfolding how_often payload_of
    find_one None same f =
        let e = eq-eqb r.kind kind same in
        let g = goes None f in
        record { few = omega (arith, b.fewer, f.few); often = omega (arith, rw (b.is, e) at f.often); seen = (omega arith, rw (b.is, e) at f.seen, g.0); here = λ h. g.1 }
    find_one (Some p) same f =
        let e = eq-eqb r.kind kind same in
        record {
          few = omega (arith, b.fewer, f.few);
          often = omega (arith, rw (b.is, e) at f.often);
          seen = (omega arith, f.seen.1, f.seen.2);
          here = λ h. (goes (Some p) f).1;
        }

  -- one that is cut short: nothing is taken further
  pub find_cut : (p : Option Place) (none : List ℕ) → splits left ≡ ([], left) → length none ≡ 0 → Finding parcel kind p at left → Finding parcel kind p at none
  find_cut p none s e f =
      let n = none_headed none (omega arith) in
      record { few = omega (arith, f.few); often = rw n (rw s at f.often); seen = rw n (rw s at f.seen); here = λ h. absurd (omega (arith, h, e)) }

  -- no whole record is left
  pub found : (p : Option Place) → length left ≡ 0 → Finding parcel kind p at left → MatchOption p (Missing parcel kind) (λ q. Placed parcel kind q)
  unfolding how_often payload_of
  found None e f = let s = none_headed left (omega arith) in record { often = sym (rw s at f.often); payload = rw s at f.seen }
  found (Some q) e f = let s = none_headed left (omega arith) in record { some = f.seen.0; often = omega (arith, rw s at f.often); payload = f.seen.1; lies = f.seen.2 }
