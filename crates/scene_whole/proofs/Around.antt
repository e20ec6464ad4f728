-- The rings of a pixel are those of its coordinates as floats. Assumes nothing.
use mathlib.Core.Path.{◌≡◌, refl}
use mathlib.Core.Bool.{Bool, true, false, cond, ◌&&◌}
use mathlib.Core.List.{List}
use Prim.Native.Nat.{ℕ, zero, suc, ◌+◌, ◌-◌, ◌*◌, ◌/◌, ◌%◌, ◌≤◌, ◌<◌, min}
use native.Mathlib.Nat.{mul-le-mul, div-le_self, le-div_iff_mul-le}
use native.Mathlib.Omega.{arith}
use lib.Dec.{eqb, lit<, lit≤}
use lib.IntN.{ℤ, pos}
use lib.ListN.{get_or}
use lib.Ieee.{Float, binary32, of_bits, of_int, div}
use Rattle.rules.specs.declared.Ring.{Ring}
use Rattle.rules.specs.declared.Scene.TheVariants.{Raw}
use Rattle.rules.specs.Forms.{Layer, Plane, plane_ratio, plane_size, turns}
use Rattle.rules.specs.Literals.{0·0, 4·0}
use Rattle.rules.specs.Float.{◌⊕◌, ◌⊗◌, ◌⊘◌, float}
use Rattle.rules.specs.Reading.{held_to}
use Rattle.rules.specs.Scene.{sign, under, point, stepped, ring, filled}
use Rattle.laws.proofs.Whole.{mul_int}
use Rattle.scene_lift.specs.Means.{means}
use Rattle.layer_lent.specs.declared.Plan.{Plan}
use Rattle.layer_lent.specs.Lent.{holding, Planned, Inside}
use Rattle.scene_whole.specs.Rings.{held_at, seen, gathered_on, row_ring, whole_ring}
use Rattle.laws.proofs.Points.{model_whole}
use Rattle.scene_whole.proofs.Points.{sample_whole}
use Rattle.scene_whole.proofs.Moved.{held_left, held_middle, held_right}

-- ---- a coordinate of a ring

held_is : (x k r size : ℕ) → k < 3 → 1 ≤ r → r ≤ 12 → x < size → size ≤ 4096 → held_to (float x ⊕ sign k ⊗ float r) size ≡ float (held_at x k r size)
held_is x zero r size K some few inside small = held_left x r size some (omega arith) inside small
held_is x (suc zero) r size K some few inside small = held_middle x r size some (omega arith) inside small
held_is x (suc (suc zero)) r size K some few inside small = held_right x r size some (omega arith) inside small
held_is x (suc (suc (suc k))) r size K some few inside small = absurd (omega arith)

held_small : (x k r size : ℕ) → x < size → size ≤ 4096 → held_at x k r size ≤ 4096
held_small x k r size inside small = go (eqb k 0) (eqb k 1)
  where
    go : (a b : Bool) → cond a (x - r) (cond b x (min (x + r) (size - 1))) ≤ 4096
    go true b = omega arith
    go false true = omega arith
    go false false = omega arith

-- "1, 2, then 3 times 4/ratio" is a whole number
quarter : (n : ℕ) → 1 ≤ n → n ≤ 4 → (n ≡ 3 → ⊥) → 4·0 ⊘ float n ≡ float (4 / n)
unfolding of_bits of_int div
quarter zero low high power = absurd (omega arith)
quarter (suc zero) low high power = refl
quarter (suc (suc zero)) low high power = refl
quarter (suc (suc (suc zero))) low high power = absurd (power refl)
quarter (suc (suc (suc (suc zero)))) low high power = refl
quarter (suc (suc (suc (suc (suc n))))) low high power = absurd (omega arith)

pub radius_in : (n : ℕ) → 1 ≤ n → n ≤ 4 → (1 ≤ 4 / n) × (4 / n ≤ 4)
radius_in n low high = ((le-div_iff_mul-le {k = n} {x = 1} {y = 4} low).1 (omega arith), div-le_self 4 n)

module _ (l : Layer) (plane : ℕ) (raw : Plane) (small : (k : ℕ) → get_or raw.bytes k 0 ≤ 255) where
  -- the scene at a whole point
  pub under_whole : (x y : ℕ) → x ≤ 4096 → y ≤ 4096 → under l plane raw (float x) (float y) ≡ seen l plane raw x y
  unfolding under seen
  under_whole x y X Y = rw (sample_whole raw x y (plane_size l plane) X Y small, model_whole l plane x y X Y)

  -- ---- a ring of a whole radius

  module _ (x y r : ℕ) (some : 1 ≤ r) (few : r ≤ 12) (left : x < (plane_size l plane).0) (above : y < (plane_size l plane).1)
      (wide : (plane_size l plane).0 ≤ 4096) (tall : (plane_size l plane).1 ≤ 4096) where
    at_side : (side k down : ℕ) → side % 3 ≡ k → side / 3 ≡ down → k < 3 → down < 3 → eqb side 4 ≡ (eqb down 1 && eqb k 1) → (q : Ring)
        → stepped l plane raw (float x) (float y) (float r) side q
        ≡ gathered_on l plane raw (plane_size l plane).0 x (held_at y down r (plane_size l plane).1) r down k q
    unfolding stepped point gathered_on
    at_side side k down e f K D middle q =
        let w = (plane_size l plane).0 in
        let h = (plane_size l plane).1 in
        rw (e, f, held_is x k r w K some few left wide, held_is y down r h D some few above tall, middle)
        (rw (under_whole (held_at x k r w) (held_at y down r h) (held_small x k r w left wide) (held_small y down r h above tall)))

    pub ring_is : turns (stepped l plane raw (float x) (float y) (float r)) 9 (record { total = 0·0; count = 0·0 })
        ≡ whole_ring l plane raw (plane_size l plane) x y r 3
    unfolding turns whole_ring row_ring
    ring_is =
        simp (
          at_side 0 0 0 refl refl (lit< tt) (lit< tt) refl,
          at_side 1 1 0 refl refl (lit< tt) (lit< tt) refl,
          at_side 2 2 0 refl refl (lit< tt) (lit< tt) refl,
          at_side 3 0 1 refl refl (lit< tt) (lit< tt) refl,
          at_side 4 1 1 refl refl (lit< tt) (lit< tt) refl,
          at_side 5 2 1 refl refl (lit< tt) (lit< tt) refl,
          at_side 6 0 2 refl refl (lit< tt) (lit< tt) refl,
          at_side 7 1 2 refl refl (lit< tt) (lit< tt) refl,
          at_side 8 2 2 refl refl (lit< tt) (lit< tt) refl,
        )

  -- ---- the three rings

  module _ (x y : ℕ) (left : x < (plane_size l plane).0) (above : y < (plane_size l plane).1)
      (wide : (plane_size l plane).0 ≤ 4096) (tall : (plane_size l plane).1 ≤ 4096)
      (low : 1 ≤ plane_ratio l plane) (high : plane_ratio l plane ≤ 4) (power : plane_ratio l plane ≡ 3 → ⊥) where
    abbrev radius : ℕ
    radius = 4 / plane_ratio l plane

    ring_whole : (times : ℕ) → 1 ≤ times → times ≤ 3 → ring l plane raw (float x) (float y) times ≡ whole_ring l plane raw (plane_size l plane) x y (radius * times) 3
    unfolding ring
    ring_whole times some few =
        let s = radius_in (plane_ratio l plane) low high in
        let m = mul-le-mul s.1 few in
        let n = mul-le-mul s.0 some in
        rw (quarter (plane_ratio l plane) low high power, mul_int binary32 (pos radius) times some (omega arith) (omega arith))
        (ring_is x y (radius * times) (omega arith) (omega arith) left above wide tall)

    pub filled_is : (v : Float) → filled l plane raw (float x) (float y) (Raw v)
        ≡ means (λ times. whole_ring l plane raw (plane_size l plane) x y (radius * times) 3) 3 (Raw v)
    unfolding filled means
    filled_is v = rw (ring_whole 1 (lit≤ tt) (lit≤ tt), ring_whole 2 (lit≤ tt) (lit≤ tt), ring_whole 3 (lit≤ tt) (lit≤ tt))

-- ---- over the plane of a plan

module _ (p : Plan) (luma first second : List ℤ) (raw : Plane) (x y : ℕ) (h : Planned p) (i : Inside p x y) (small : (k : ℕ) → get_or raw.bytes k 0 ≤ 255) where
  pub planned_filled : (v : Float) → filled (holding p.shape luma first second) p.shape.plane raw (float x) (float y) (Raw v)
      ≡ means (λ times. whole_ring (holding p.shape luma first second) p.shape.plane raw (p.across, p.down) x y (4 / p.span * times) 3) 3 (Raw v)
  planned_filled v =
      rw h.is
      (filled_is (holding p.shape luma first second) p.shape.plane raw small x y (rw h.is at i.left) (rw h.is at i.above)
      (rw h.is at h.wide.1) (rw h.is at h.tall.1) (rw h.is at h.span.0) (rw h.is at h.span.1) (rw h.is at h.power) v)
