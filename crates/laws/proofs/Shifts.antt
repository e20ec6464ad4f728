-- A shift right of an unsigned word, whatever its width. Assumes nothing.
use mathlib.Core.Path.{◌≡◌, refl, ap, ◌∙◌}
use Prim.Native.Nat.{ℕ, ◌+◌, ◌/◌, ◌%◌, ◌^◌}
use lib.Pow.{shr-shr}
use mir.Syntax.{Width, w8, w16, w32, w64, w128, unsigned, shr}
use mir.Val.{vint, as_int, op2_val}

-- what the machine's shift right by k bits leaves of n, in words of width w; k is below the width in every program
abbrev pub shifted : Width → (n k : ℕ) → ℕ
shifted w n k = as_int 0 (op2_val (shr unsigned) (vint w n) (vint w k)) (λ _ left. left)

-- a shift right by k bits is the quotient by 2 ^ k
pub shift_right : (w : Width) (n k : ℕ) → shifted w n k ≡ n / 2 ^ k
shift_right w8 n k = refl
shift_right w16 n k = refl
shift_right w32 n k = refl
shift_right w64 n k = refl
shift_right w128 n k = refl

-- bit j of a number
abbrev pub bit : (n j : ℕ) → ℕ
bit n j = n / 2 ^ j % 2

-- and each bit of it is the one that stood k places above
pub moved : (w : Width) (n k j : ℕ) → bit (shifted w n k) j ≡ bit n (k + j)
moved w n k j = rw (shift_right w n k) (ap (λ (q : ℕ). q % 2) (shr-shr n k j))

-- the quotient by a side that is such a power
pub quotient : (w : Width) (n k : ℕ) {side : ℕ} → side ≡ 2 ^ k → shifted w n k ≡ n / side
quotient w n k e = shift_right w n k ∙ rw e
