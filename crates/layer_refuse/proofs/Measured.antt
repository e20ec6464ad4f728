-- Byte planes by what is measured of them. Assumes nothing.
use mathlib.Core.Path.{◌≡◌, refl, ap}
use mathlib.Core.Bool.{◌&&◌}
use mathlib.Core.List.{List, [], ◌∷◌}
use Prim.Native.Nat.{ℕ}
use lib.Dec.{leb}
use Rattle.std.specs.Prelude.{map}
use Rattle.std.specs.List.{list_all}
use Rattle.rules.specs.Forms.{Plane, each}
use Rattle.rules.specs.Domain.{is_pitch, is_plane, plane_length, have_pitches, have_lengths}
use Rattle.layer_refuse.specs.declared.Over.{Over}
use Rattle.layer_refuse.specs.Rows.{measured}

pitches : (lent : List Plane) (width height : ℕ) → list_all (λ plane. is_pitch plane.pitch width) (map measured lent) ≡ have_pitches lent (width, height)
unfolding each
pitches [] width height = refl
pitches (p ∷ lent) width height = ap (λ b. is_pitch p.pitch width && b) (pitches lent width height)

pub pitches_are : (lent : List Plane) (over : List Over) (width height : ℕ) → map measured lent ≡ over
    → list_all (λ plane. is_pitch plane.pitch width) over ≡ have_pitches lent (width, height)
pitches_are lent over width height e = rw (← e) (pitches lent width height)

lengths : (lent : List Plane) (size : ℕ × ℕ)
    → list_all (λ plane. leb (plane_length plane.pitch size) plane.length) (map measured lent) ≡ have_lengths lent size
unfolding each
lengths [] size = refl
lengths (p ∷ lent) size = ap (λ b. is_plane p size && b) (lengths lent size)

pub lengths_are : (lent : List Plane) (over : List Over) (size : ℕ × ℕ) → map measured lent ≡ over
    → list_all (λ plane. leb (plane_length plane.pitch size) plane.length) over ≡ have_lengths lent size
lengths_are lent over size e = rw (← e) (lengths lent size)
