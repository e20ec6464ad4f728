-- What the tests of a table say where none of its rows fits. Assumes nothing.
use mathlib.Core.Path.{◌≡◌}
use mathlib.Core.Bool.{Bool, true, ◌&&◌}
use mathlib.Core.List.{List, ◌∷◌}
use Prim.Native.Nat.{ℕ, ◌+◌, ◌-◌, ◌*◌, ◌≤◌, ◌<◌}
use native.Mathlib.Nat.{mul-le-mul_right}
use native.Mathlib.Omega.{arith}
use borrow.Author.Tests.{leb-true}
use lib.ListN.{length}
use Rattle.std.proofs.lemmas.Bool.{and_parts}
use Rattle.rules.specs.Forms.{Plane, each}
use Rattle.rules.specs.Domain.{are_sizes, is_pitch, is_plane, have_pitches, have_lengths}
use Rattle.laws.proofs.Accepted.{sizes_in, pitch_in}
use Rattle.still_pass.specs.Pass.{PlaneIn}

pub and_true : (a b : Bool) → a ≡ true → b ≡ true → (a && b) ≡ true
and_true a b e f = rw (e, f)

-- the first of some planes that are lent, and the others
pub first_in : (p : Plane) (rest : List Plane) (size : ℕ × ℕ) → are_sizes size ≡ true → have_pitches (p ∷ rest) size ≡ true → have_lengths (p ∷ rest) size ≡ true
    → PlaneIn p.bytes p.pitch size × (have_pitches rest size ≡ true) × (have_lengths rest size ≡ true)
unfolding each
first_in p rest size s pitches lengths =
    let z = sizes_in size s in
    let a = and_parts (is_pitch p.pitch size.0) (have_pitches rest size) pitches in
    let b = and_parts (is_plane p size) (have_lengths rest size) lengths in
    (record { narrow = z.0.1; low = z.1.1; apart = (pitch_in p.pitch size.0 a.0).1; inside = leb-true _ _ b.0 }, a.1, b.1)

-- a pixel lies within the bytes
pub pixel_in : {bytes : List ℕ} {pitch x y : ℕ} {size : ℕ × ℕ} → PlaneIn bytes pitch size → x < size.0 → y < size.1 → y * pitch + x < length bytes
pixel_in {pitch = pitch} {y = y} {size} p left upper =
    let up : y ≤ size.1 - 1 = omega arith in
    omega (arith, mul-le-mul_right pitch up, p.inside)

-- a list that is as long
pub plane_as_long : {bytes other : List ℕ} {pitch : ℕ} {size : ℕ × ℕ} → PlaneIn bytes pitch size → length other ≡ length bytes → PlaneIn other pitch size
plane_as_long p e = record { narrow = p.narrow; low = p.low; apart = p.apart; inside = omega (arith, p.inside) }
