-- A point of a plane lies where it can be cut by 2 ^ 23; held to a side, it is cut to one of its places.
-- Assumes nothing.
use mathlib.Core.Path.{◌≡◌, refl, sym, ◌∙◌}
use mathlib.Core.Bool.{Bool, true, false, cond, true≢false}
use Prim.Native.Nat.{ℕ, ◌-◌, ◌*◌, ◌/◌, ◌^◌, ◌≤◌, ◌<◌, min}
use native.Mathlib.Nat.{lt_of_le_of_lt, div-lt_iff_lt-mul}
use native.Mathlib.Omega.{arith}
use lib.IntN.{pos}
use lib.Dec.{T, ltb, lt→ltb, nltb→le}
use lib.Ieee.{Float, nan, inf, fin, up, down, lt, of_bits, to_unsigned, is_nan}
use lib.Ieee.Fits.{down_pos}
use Rattle.rules.specs.Literals.{0·0}
use Rattle.rules.specs.Float.{cut, max, negative}
use Rattle.rules.specs.Reading.{held_to}
use Rattle.laws.proofs.Value.{not_of}
use Rattle.float.proofs.Index.{cut_nought, cut_clamp}
use Rattle.sample.specs.Points.{Held}

-- ---- x where it is above 0

-- what is above 0 and cut to a small number lies below 2 ^ 23
small : (x : Float) → T (lt 0·0 x) → cut x ≤ 4096 → T (lt x (fin false 1 (pos 23)))
unfolding lt to_unsigned of_bits
small nan p h = p
small (inf true) p h = tt
small (inf false) p h = absurd (omega arith)
small (fin true m e) p h = absurd p
small (fin false m e) p h =
    lt→ltb (m * up e * 1) (8388608 * down e)
    (near (m * up e) (down e) ((div-lt_iff_lt-mul (down_pos e)).0 (whole (m * up e / down e) h)))
  where
    whole : (q : ℕ) → min q (2 ^ 64 - 1) ≤ 4096 → q < 4097
    whole q h = omega arith

    near : (a d : ℕ) → a < 4097 * d → a * 1 < 8388608 * d
    near a d h = omega arith

-- what is not above 0 is cut to 0
none : (x : Float) → lt 0·0 x ≡ false → cut x ≡ 0
unfolding lt to_unsigned of_bits
none nan h = refl
none (inf true) h = refl
none (inf false) h = absurd (true≢false h)
none (fin true m e) h = refl
none (fin false m e) h =
    let l = nltb→le (0 * 1 * down e) (m * up e * 1) (not_of (ltb (0 * 1 * down e) (m * up e * 1)) h) in
    held (m * up e / down e) ((div-lt_iff_lt-mul (down_pos e)).1 (least (m * up e) (down e) l (down_pos e)))
  where
    least : (a d : ℕ) → a * 1 ≤ 0 * 1 * d → 0 < d → a < 1 * d
    least a d h p = omega arith

    held : (q : ℕ) → q < 1 → min q (2 ^ 64 - 1) ≡ 0
    held q h = omega arith

-- above 0 there is no sign
unsigned : (x : Float) → T (lt 0·0 x) → negative x ≡ false
unfolding lt negative of_bits
unsigned nan p = refl
unsigned (inf true) p = absurd p
unsigned (inf false) p = refl
unsigned (fin true m e) p = absurd p
unsigned (fin false m e) p = refl

-- a point of a plane, made positive, can be cut by 2 ^ 23, and is cut to the same number
pub record Cuts (x q : Float) : Type 0 where
  pub sign : negative q ≡ false
  pub under : T (lt q (fin false 1 (pos 23)))
  pub is : cut q ≡ cut x

pub cuts : (x : Float) → cut x ≤ 4096 → Cuts x (max 0·0 x)
unfolding of_bits negative lt max is_nan
cuts x h = go (lt 0·0 x) (λ p. record { sign = unsigned x p; under = small x p h; is = refl }) (none x)
  where
    go : (b : Bool) → (T b → Cuts x x) → (b ≡ false → cut x ≡ 0) → Cuts x (cond b x 0·0)
    go true f g = f tt
    go false f g = record { sign = refl; under = tt; is = cut_nought ∙ sym (g refl) }

-- ---- held to a side

pub held : (x r : Float) (size : ℕ) → 1 ≤ size → size ≤ 4096 → r ≡ held_to x size → Held x size r
held x r size some few is = record { is = is; within = rw is (lt_of_le_of_lt (cut_clamp x (size - 1) (omega arith)) (omega arith)) }
