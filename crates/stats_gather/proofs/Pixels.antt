-- A row's pixels are added one after the other.
-- Assumes nothing.
use mathlib.Core.Path.{◌≡◌, refl, ap, ◌∙◌}
use mathlib.Core.List.{List}
use Prim.Native.Nat.{ℕ, zero, suc, ◌+◌, ◌*◌, ◌≤◌, ◌<◌}
use native.Mathlib.Nat.{add-zero, add-suc, add_assoc, mul-add, mul-le-mul_left}
use native.Mathlib.Omega.{arith}
use lib.Ieee.{Float, nan}
use lib.ListN.{get_or}
use Rattle.rules.specs.declared.Steps.{Steps}
use Rattle.rules.specs.declared.Taps.{Taps}
use Rattle.rules.specs.Forms.{turns}
use Rattle.rules.specs.Motion.{row_taps, steps}
use Rattle.rules.specs.Reading.{at}
use Rattle.rules.specs.Stats.{six_terms, terms}
use Rattle.motion.specs.Moves.{steps_by}
use Rattle.motion.proofs.Fields.{by_rows}
use Rattle.stats_terms.specs.Terms.{moved_of, terms_by}
use Rattle.stats_batch.specs.declared.Shifts.{Shifts}
use Rattle.stats_batch.specs.Lanes.{Lanes, Shifted}
use Rattle.stats_gather.specs.Sums.{run_added, Pass, terms_of, row_added}

by_steps : (f : Pass) (x y : ℕ) → terms_by f.first f.second (steps f.motion f.ratio x y) f.size x y ≡ terms_of f x y
unfolding terms terms_by moved_of
by_steps f x y = refl

-- the terms that a pixel's steps give are the definition's
pub lane_terms : (f : Pass) (x y : ℕ) (down : Taps) (pb pa : Float) (s : Steps) → down ≡ row_taps f.motion f.ratio y
    → s ≡ steps_by f.motion f.ratio down x
    → pb ≡ moved_of f.first x y s.fx s.fy f.size
    → pa ≡ moved_of f.second x y s.bx s.by f.size
    → six_terms pb pa (at f.second x y) (at f.first x y) ≡ terms_of f x y
unfolding terms_by
lane_terms f x y down pb pa s d e b a =
    let known : terms_by f.first f.second s f.size x y ≡ terms_of f x y =
    ap (λ (z : Steps). terms_by f.first f.second z f.size x y) (e ∙ rw d (by_rows f.motion f.ratio x y)) ∙ by_steps f x y in
    rw (b, a) known

-- no pixel of a row yet
pub row_none : (pairs many : ℕ) (f : Pass) (y place : ℕ) (l : List Float) → l ≡ row_added pairs many f y place 0 l
unfolding row_added run_added turns
row_none pairs many f y place l = refl

-- a run is added by the terms of its own pixels alone
pub run_same : (pairs many : ℕ) (ts us : ℕ → List Float) (place n : ℕ) (l : List Float) → ((k : ℕ) → k < n → ts k ≡ us k)
    → run_added pairs many ts place n l ≡ run_added pairs many us place n l
unfolding run_added turns
run_same pairs many ts us place zero l same = refl
run_same pairs many ts us place (suc n) l same =
    rw (same n (omega arith), run_same pairs many ts us place n l (λ k h. same k (omega arith)))

-- a run is added by the samples of its moved pixels
pub run_is : (pairs many : ℕ) (f : Pass) (down : Taps) (x y n place : ℕ) (s : Shifts) (pb pa before after : List Float)
    → down ≡ row_taps f.motion f.ratio y
    → Shifted f.motion f.ratio down x n s
    → Lanes n nan (λ k. moved_of f.first (x + k) y (get_or s.fx k nan) (get_or s.fy k nan) f.size) pb
    → Lanes n nan (λ k. moved_of f.second (x + k) y (get_or s.bx k nan) (get_or s.by k nan) f.size) pa
    → after ≡ run_added pairs many (λ k. six_terms (get_or pb k nan) (get_or pa k nan) (at f.second (x + k) y) (at f.first (x + k) y)) place n before
    → after ≡ run_added pairs many (λ k. terms_of f (x + k) y) place n before
run_is pairs many f down x y n place s pb pa before after d steps b a added =
    added ∙ run_same pairs many _ _ place n before
    (λ k h. lane_terms f (x + k) y down (get_or pb k nan) (get_or pa k nan) (lane k) d (rw (steps.fx k h, steps.fy k h, steps.bx k h, steps.by k h)) (b k h) (a k h))
  where
    lane : ℕ → Steps
    lane k = record { fx = get_or s.fx k nan; fy = get_or s.fy k nan; bx = get_or s.bx k nan; by = get_or s.by k nan }

-- a run after another
run_after : (pairs many : ℕ) (ts : ℕ → List Float) (place x n : ℕ) (l : List Float)
    → run_added pairs many (λ j. ts (x + j)) (place + many * x) n (run_added pairs many ts place x l) ≡ run_added pairs many ts place (x + n) l
unfolding run_added turns
run_after pairs many ts place x zero l = rw (add-zero x)
run_after pairs many ts place x (suc n) l =
    rw (add-suc x n, run_after pairs many ts place x n l, add_assoc place (many * x) (many * n), ← (mul-add many x n))

-- the pixels of a row so far, and a run more
pub row_more : (pairs many : ℕ) (f : Pass) (y place x n k so_far to : ℕ) (before l r : List Float) → so_far ≡ x → to ≡ x + n
    → l ≡ row_added pairs many f y place so_far before → k ≡ place + many * x → r ≡ run_added pairs many (λ j. terms_of f (x + j) y) k n l
    → r ≡ row_added pairs many f y place to before
unfolding row_added
row_more pairs many f y place x n k so_far to before l r here end done there more =
    rw (more, done, there, here, end) (run_after pairs many (λ j. terms_of f j y) place x n before)

-- a run's places lie within the row's
pub room : (many x n width : ℕ) → x + n ≤ width → many * x + many * n ≤ many * width
room many x n width h = rw (mul-add many x n) at (mul-le-mul_left many h)
