-- Laws of `turns`. Assumes nothing.
use mathlib.Core.Path.{◌≡◌, refl, ap, ◌∙◌}
use Prim.Native.Nat.{ℕ, zero, suc, ◌+◌, ◌*◌, ◌<◌}
use native.Mathlib.Nat.{add-zero, add-suc, zero-mul, suc-mul}
use native.Mathlib.Numerals.{add-one}
use native.Mathlib.Omega.{arith}
use Rattle.rules.specs.Forms.{turns, scan_row, scan}

-- one turn more, of any loop
pub turns_more : {S : Type 0} (step : ℕ → S → S) (n : ℕ) (start now after : S) → now ≡ turns step n start → after ≡ step n now → after ≡ turns step (n + 1) start
unfolding turns
turns_more step n start now after e f = rw (f, e, add-one)

-- turns that do the same at each number come to the same
pub turns_same : {S : Type 0} (f g : ℕ → S → S) (n : ℕ) → ((k : ℕ) → k < n → (s : S) → f k s ≡ g k s) → (s : S) → turns f n s ≡ turns g n s
unfolding turns
turns_same f g zero same s = refl
turns_same f g (suc n) same s = same n (omega arith) (turns f n s) ∙ ap (g n) (turns_same f g n (λ k h. same k (omega arith)) s)

-- m turns, and n after them
pub turns-add : {S : Type 0} (f : ℕ → S → S) (m n : ℕ) (s : S) → turns f (m + n) s ≡ turns (λ k. f (m + k)) n (turns f m s)
unfolding turns
turns-add f m zero s = rw (add-zero m)
turns-add f m (suc n) s = rw (add-suc m n) (ap (f (m + n)) (turns-add f m n s))

-- a pass over a plane is one over its places
pub scan_flat : {S : Type 0} (f : ℕ → S → S) (width height : ℕ) (s : S) → scan (λ x y. f (y * width + x)) (width, height) s ≡ turns f (height * width) s
unfolding turns scan_row scan
scan_flat f width zero s = rw (zero-mul width)
scan_flat f width (suc n) s =
    rw (suc-mul n width, turns-add f (n * width) width s) (ap (turns (λ k. f (n * width + k)) width) (scan_flat f width n s))
