-- What a table says where none of its rows fits. Assumes nothing.
use mathlib.Core.Path.{◌≡◌, refl, sym, ◌∙◌}
use mathlib.Core.Bool.{Bool, true, false, not, cond, ◌&&◌, ◌||◌, false≢true}
use mathlib.Core.List.{List, [], ◌∷◌}
use Prim.Native.Nat.{ℕ, zero, suc, ◌+◌, ◌-◌, ◌*◌, ◌/◌, ◌%◌, ◌≤◌, ◌<◌}
use native.Mathlib.Nat.{mul-le-mul_left, mul-le-mul_right, div-add-mod', div-le_self, le_trans, zero-mul}
use native.Mathlib.Omega.{arith}
use borrow.Author.Tests.{leb-true, eqb-true, eqb-false, not-true, not-false}
use lib.Dec.{leb, eqb}
use lib.ListN.{length, get_or}
use Rattle.std.proofs.lemmas.Bool.{and_parts}
use Rattle.rules.specs.Forms.{Plane, Layer, plane_size, each, cells}
use Rattle.rules.specs.Domain.{is_size, is_ratio, are_sizes, is_pitch, is_plane, are_exact}
use Rattle.rules.specs.Refusals.{◌unless◌, Table, first_fitting, layer_rows}

-- an `&&` that is true: both are
pub both : (a b : Bool) → (a && b) ≡ true → (a ≡ true) × (b ≡ true)
both = and_parts

-- ---- tables

-- no row gives 0
abbrev pub numbered : Table → Bool
numbered [] = true
numbered (row ∷ rest) = not (eqb row.0 0) && numbered rest

passed : (n rest : ℕ) (fits : Bool) → not (eqb n 0) ≡ true → cond fits n rest ≡ 0 → (fits ≡ false) × (rest ≡ 0)
passed n rest true some e = absurd (eqb-false n 0 (not-true (eqb n 0) some) e)
passed n rest false some e = (refl, e)

-- the test of row k holds
pub row_right : (t : Table) → numbered t ≡ true → first_fitting t ≡ 0 → (k : ℕ) (right : Bool) → (get_or t k (0 unless true)).1 ≡ not right → right ≡ true
unfolding first_fitting
row_right [] some e k right is = not-false right (sym is)
row_right (row ∷ rest) some e zero right is =
    let s = and_parts (not (eqb row.0 0)) (numbered rest) some in
    not-false right (sym is ∙ (passed row.0 (first_fitting rest) row.1 s.0 e).0)
row_right (row ∷ rest) some e (suc k) right is =
    let s = and_parts (not (eqb row.0 0)) (numbered rest) some in
    row_right rest s.1 (passed row.0 (first_fitting rest) row.1 s.0 e).1 k right is

-- what holds of 0 and of each row's number holds of the table's
pub number_passes : (test : ℕ → Bool) (t : Table) → test 0 ≡ true → each (λ row. test row.0) t ≡ true → test (first_fitting t) ≡ true
unfolding first_fitting each
number_passes test [] none e = none
number_passes test (row ∷ rest) none e =
    let s = and_parts (test row.0) (each (λ row. test row.0) rest) e in
    first row.1 row.0 (first_fitting rest) s.0 (number_passes test rest none s.1)
  where
    first : (fits : Bool) (n rest : ℕ) → test n ≡ true → test rest ≡ true → test (cond fits n rest) ≡ true
    first true n rest a b = a
    first false n rest a b = b

-- ---- sizes, ratios, pitches and lengths

-- from 1 to 4096
abbrev pub Side : ℕ → Type 0
Side n = (1 ≤ n) × (n ≤ 4096)

size_in : (n : ℕ) → is_size n ≡ true → Side n
size_in n e = let t = and_parts (leb 1 n) (leb n 4096) e in (leb-true 1 n t.0, leb-true n 4096 t.1)

pub sizes_in : (size : ℕ × ℕ) → are_sizes size ≡ true → Side size.0 × Side size.1
sizes_in size e = let t = and_parts (is_size size.0) (is_size size.1) e in (size_in size.0 t.0, size_in size.1 t.1)

pub pitch_in : (pitch width : ℕ) → is_pitch pitch width ≡ true → (width ≤ pitch) × (pitch ≤ 65536)
pitch_in pitch width e =
    let t = and_parts (leb width pitch) (leb pitch 65536) e in (leb-true width pitch t.0, leb-true pitch 65536 t.1)

pub one_in : (r : ℕ) → (eqb r 1 || eqb r 2 || eqb r 4) ≡ true → ((1 ≤ r) × (r ≤ 4)) × (r ≡ 3 → ⊥)
one_in r e = go (eqb r 1) (eqb r 2) (eqb r 4) (eqb-true r 1) (eqb-true r 2) (eqb-true r 4) e
  where
    is : (k : ℕ) → r ≡ k → (1 ≤ k) × (k ≤ 4) → (k ≡ 3 → ⊥) → ((1 ≤ r) × (r ≤ 4)) × (r ≡ 3 → ⊥)
    is k f g h = rw f (g, h)

    go : (a b c : Bool) → (a ≡ true → r ≡ 1) → (b ≡ true → r ≡ 2) → (c ≡ true → r ≡ 4) → (a || b || c) ≡ true → ((1 ≤ r) × (r ≤ 4)) × (r ≡ 3 → ⊥)
    go true b c f g h e = is 1 (f refl) (omega arith, omega arith) (λ z. omega arith)
    go false true c f g h e = is 2 (g refl) (omega arith, omega arith) (λ z. omega arith)
    go false false true f g h e = is 4 (h refl) (omega arith, omega arith) (λ z. omega arith)
    go false false false f g h e = absurd (false≢true e)

whole_in : (n r : ℕ) → eqb (n % r) 0 ≡ true → n / r * r ≡ n
whole_in n r e = let z = eqb-true (n % r) 0 e in let d = div-add-mod' n r in omega arith

-- a side that a ratio goes into, divided by it
pub part_in : (n r : ℕ) → Side n → n / r * r ≡ n → Side (n / r)
part_in n r h e = (some (n / r) e, le_trans (div-le_self n r) h.1)
  where
    some : (q : ℕ) → q * r ≡ n → 1 ≤ q
    some zero e = let z = zero-mul r in absurd (omega arith)
    some (suc q) e = omega arith

-- there are as many cells as chroma pixels along a side, at most
pub cells_in : (n r : ℕ) → r ≤ 4 → n / r * r ≡ n → cells n ≤ n / r
cells_in n r few whole = let m = mul-le-mul_left (n / r) few in omega arith

pub record Shrinks (size : ℕ × ℕ) (ratio : ℕ) : Type 0 where
  pub few : (1 ≤ ratio) × (ratio ≤ 4)
  pub power : ratio ≡ 3 → ⊥
  pub whole_across : size.0 / ratio * ratio ≡ size.0
  pub whole_down : size.1 / ratio * ratio ≡ size.1
  pub across : Side (size.0 / ratio)
  pub down : Side (size.1 / ratio)

pub ratio_in : (size : ℕ × ℕ) (ratio : ℕ) → Side size.0 × Side size.1 → is_ratio ratio size ≡ true → Shrinks size ratio
ratio_in size ratio sides e =
    let one : Bool = eqb ratio 1 || eqb ratio 2 || eqb ratio 4 in
    let t = and_parts (one && eqb (size.0 % ratio) 0) (eqb (size.1 % ratio) 0) e in
    let u = and_parts one (eqb (size.0 % ratio) 0) t.0 in
    let few = one_in ratio u.0 in
    let w = whole_in size.0 ratio u.1 in
    let h = whole_in size.1 ratio t.1 in
    record {
      few = few.0;
      power = few.1;
      whole_across = w;
      whole_down = h;
      across = part_in size.0 ratio sides.0 w;
      down = part_in size.1 ratio sides.1 h;
    }

-- three exact lengths
pub exact_in : {A : Type 0} (luma : List A) (chroma : List A × List A) (lengths : ℕ × ℕ) → are_exact luma chroma lengths ≡ true
    → (length luma ≡ lengths.0) × (length chroma.0 ≡ lengths.1) × (length chroma.1 ≡ lengths.1)
exact_in luma chroma lengths e =
    let first = eqb (length luma) lengths.0 in
    let second = eqb (length chroma.0) lengths.1 in
    let t = and_parts (first && second) (eqb (length chroma.1) lengths.1) e in
    let u = and_parts first second t.0 in
    (eqb-true _ _ u.0, eqb-true _ _ u.1, eqb-true _ _ t.1)

-- ---- layers

-- a byte plane that lies over a plane of a layer
pub record Over (l : Layer) (plane : ℕ) (p : Plane) : Type 0 where
  pub wide : l.size.0 ≤ 4096
  pub tall : l.size.1 ≤ 4096
  pub narrow : (plane_size l plane).0 ≤ p.pitch
  pub room : ((plane_size l plane).1 - 1) * p.pitch + (plane_size l plane).0 ≤ length p.bytes

-- so the first of the byte planes does
pub layer_passed : (l : Layer) (plane : ℕ) (p : Plane) (lent : List Plane) (rest : Table)
    → first_fitting (layer_rows l plane (p ∷ lent) rest) ≡ 0 → numbered rest ≡ true → Over l plane p
unfolding each
layer_passed l plane p lent rest e some =
    let size = plane_size l plane in
    let ok = row_right (layer_rows l plane (p ∷ lent) rest) some e in
    let sides = sizes_in l.size (ok 1 _ refl) in
    record {
      wide = sides.0.1;
      tall = sides.1.1;
      narrow = (pitch_in p.pitch size.0 (and_parts (is_pitch p.pitch size.0) _ (ok 4 _ refl)).0).0;
      room = leb-true _ _ (and_parts (is_plane p size) _ (ok 5 _ refl)).0;
    }

-- a pixel's place is in the bytes
pub place : (l : Layer) (plane : ℕ) (p : Plane) → Over l plane p → (x y : ℕ) → x < (plane_size l plane).0 → y < (plane_size l plane).1
    → y * p.pitch + x < length p.bytes
place l plane p o x y across down =
    let h : y ≤ (plane_size l plane).1 - 1 = omega arith in
    omega (arith, mul-le-mul_right p.pitch h, o.room)
