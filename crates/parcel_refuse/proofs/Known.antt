-- A parcel's records by kind: six of them, each kind once, are all known. Assumes nothing.
use mathlib.Core.Path.{◌≡◌, refl, ap, ◌∙◌}
use mathlib.Core.Bool.{Bool, true, false, cond, ◌&&◌}
use mathlib.Core.List.{List, [], ◌∷◌}
use Prim.Native.Nat.{ℕ, zero, suc, ◌+◌, ◌-◌, ◌≤◌}
use native.Mathlib.Omega.{arith}
use borrow.Author.Tests.{leb-true, le-leb, lt-leb, eqb-true, ne_eqb}
use lib.Dec.{eqb, leb}
use lib.ListN.{length}
use Rattle.std.proofs.lemmas.Bool.{and_parts}
use Rattle.rules.specs.Forms.{turns, all, each}
use Rattle.rules.specs.Host.{little}
use Rattle.rules.specs.Parcel.{Record, length_at, begins_whole, first_record, records, head_first, are_known, how_often, once_each, kinds_right}
use Rattle.parcel_records.specs.Steps.{splits}
use Rattle.parcel_records.proofs.Split.{later, opened}

-- ---- how many there are

is_known : Record → Bool
is_known r = leb 1 r.kind && leb r.kind 6

-- those of no kind from 1 to 6
unknown : List Record → ℕ
unknown [] = 0
unknown (r ∷ rest) = cond (is_known r) (unknown rest) (unknown rest + 1)

-- those of kinds 1 to 6
known : List Record → ℕ
known list = how_often 1 list + how_often 2 list + how_often 3 list + how_often 4 list + how_often 5 list + how_often 6 list

-- every record is counted once
counted : (list : List Record) → known list + unknown list ≡ length list
unfolding known unknown how_often is_known
counted [] = refl
counted (r ∷ rest) = go r.kind (counted rest)
  where
    go : (k : ℕ) → known rest + unknown rest ≡ length rest
        → cond (eqb k 1) (how_often 1 rest + 1) (how_often 1 rest) + cond (eqb k 2) (how_often 2 rest + 1) (how_often 2 rest)
        + cond (eqb k 3) (how_often 3 rest + 1) (how_often 3 rest) + cond (eqb k 4) (how_often 4 rest + 1) (how_often 4 rest)
        + cond (eqb k 5) (how_often 5 rest + 1) (how_often 5 rest) + cond (eqb k 6) (how_often 6 rest + 1) (how_often 6 rest)
        + cond (leb 1 k && leb k 6) (unknown rest) (unknown rest + 1) ≡ suc (length rest)
    go zero e = omega arith
    go (suc zero) e = omega arith
    go (suc (suc zero)) e = omega arith
    go (suc (suc (suc zero))) e = omega arith
    go (suc (suc (suc (suc zero)))) e = omega arith
    go (suc (suc (suc (suc (suc zero))))) e = omega arith
    go (suc (suc (suc (suc (suc (suc zero)))))) e = omega arith
    go (suc (suc (suc (suc (suc (suc (suc k))))))) e =
        let n = suc (suc (suc (suc (suc (suc (suc k)))))) in
        rw (
          ne_eqb n 1 (λ h. omega arith),
          ne_eqb n 2 (λ h. omega arith),
          ne_eqb n 3 (λ h. omega arith),
          ne_eqb n 4 (λ h. omega arith),
          ne_eqb n 5 (λ h. omega arith),
          ne_eqb n 6 (λ h. omega arith),
          le-leb 1 n (omega arith),
          lt-leb n 6 (omega arith),
        )
        (omega arith)

known_none : (list : List Record) → unknown list ≡ 0 → are_known list ≡ true
unfolding unknown each is_known
known_none [] e = refl
known_none (r ∷ rest) e = go (is_known r) e (known_none rest)
  where
    go : (b : Bool) → cond b (unknown rest) (unknown rest + 1) ≡ 0 → (unknown rest ≡ 0 → are_known rest ≡ true) → (b && are_known rest) ≡ true
    go true q f = f q
    go false q f = absurd (omega arith)

none_known : (list : List Record) → are_known list ≡ true → unknown list ≡ 0
unfolding unknown each is_known
none_known [] e = refl
none_known (r ∷ rest) e = let t = and_parts (is_known r) (are_known rest) e in rw t.0 (none_known rest t.1)

once_known : (list : List Record) → once_each list ≡ true → known list ≡ 6
unfolding known all turns
once_known list e =
    let is : ℕ → Bool = λ k. eqb (how_often k list) 1 in
    let s = and_parts (is 1 && is 2 && is 3 && is 4 && is 5) (is 6) e in
    let f = and_parts (is 1 && is 2 && is 3 && is 4) (is 5) s.0 in
    let q = and_parts (is 1 && is 2 && is 3) (is 4) f.0 in
    let t = and_parts (is 1 && is 2) (is 3) q.0 in
    let d = and_parts (is 1) (is 2) t.0 in
    let one = eqb-true (how_often 1 list) 1 d.0 in
    let two = eqb-true (how_often 2 list) 1 d.1 in
    let three = eqb-true (how_often 3 list) 1 t.1 in
    let four = eqb-true (how_often 4 list) 1 q.1 in
    let five = eqb-true (how_often 5 list) 1 f.1 in
    let six = eqb-true (how_often 6 list) 1 s.1 in
    omega arith

-- six records, each kind once: none is left to be unknown
pub kinds_of_six : (list : List Record) → length list ≡ 6 → kinds_right list ≡ (head_first list && once_each list)
unfolding kinds_right
kinds_of_six list six = go (head_first list) (are_known list) (once_each list) (λ e. known_none list (omega (arith, counted list, once_known list e)))
  where
    go : (first all once : Bool) → (once ≡ true → all ≡ true) → (first && all && once) ≡ (first && once)
    go true true once f = refl
    go true false true f = f refl
    go true false false f = refl
    go false all once f = refl

-- any other number of them cannot be right
pub kinds_of_others : (list : List Record) → (length list ≡ 6 → ⊥) → kinds_right list ≡ false
unfolding kinds_right
kinds_of_others list other =
    go (head_first list) (are_known list) (once_each list) (λ a o. other (omega (arith, counted list, once_known list o, none_known list a)))
  where
    go : (first all once : Bool) → (all ≡ true → once ≡ true → ⊥) → (first && all && once) ≡ false
    go true true true f = absurd (f refl refl)
    go true true false f = refl
    go true false once f = refl
    go false all once f = refl

-- ---- the first record

abbrev Opens : List ℕ → List Record → Type 0
Opens parcel list = (6 ≤ length parcel) × (head_first list ≡ eqb (little 2 parcel 4) 1)

pub first_is : (parcel : List ℕ) → length (records parcel) ≡ 6 → Opens parcel (records parcel)
first_is parcel six = go (begins_whole parcel) refl (opened parcel)
  where
    go : (b : Bool) → begins_whole parcel ≡ b → splits parcel ≡ cond b (first_record parcel ∷ (splits (later parcel)).0, (splits (later parcel)).1) ([], parcel) → Opens parcel (records parcel)
    go true q e = (leb-true 6 (length parcel) (and_parts (leb 6 (length parcel)) (leb (length_at parcel) (length parcel - 6)) q).0, ap (λ (t : List Record × List ℕ). head_first t.0) e)
    go false q e = absurd (omega (arith, six, ap (λ (t : List Record × List ℕ). length t.0) e))

-- so the kinds are right where the first is the head's and each is there once
pub kinds_are : (parcel : List ℕ) → length (records parcel) ≡ 6 → kinds_right (records parcel) ≡ (eqb (little 2 parcel 4) 1 && once_each (records parcel))
kinds_are parcel six = kinds_of_six (records parcel) six ∙ rw (first_is parcel six).1
