-- The laws of a pass over a plane, stated once over any rule: what one pixel, a run of pixels passed over, and one row
-- add to what is painted and counted. Assumes nothing.
use mathlib.Core.Path.{◌≡◌, refl, sym, ap, ◌∙◌}
use mathlib.Core.Bool.{Bool, true, false, cond, ◌&&◌, ◌||◌}
use mathlib.Core.Logic.{◌↔◌}
use mathlib.Core.List.{List}
use Prim.Native.Nat.{ℕ, zero, suc, ◌+◌, ◌*◌, ◌/◌, ◌%◌, ◌≤◌, ◌<◌}
use native.Mathlib.Numerals.{add-one}
use native.Mathlib.Omega.{arith}
use native.Mathlib.Nat.{mul-div_cancel, mul-mod_left, div-add-mod'}
use borrow.Author.Tests.{eqb-true, eqb-false, eq-eqb, ne_eqb}
use lib.Dec.{eqb}
use lib.ListN.{get_or, set}
use lib.Ieee.{Float, lt, le, eq}
use Rattle.std.specs.Prelude.{Option, Some, None}
use Rattle.std.specs.Ordering.{partial_le, float_partial_cmp, is_some_and, is_le}
use Rattle.std.specs.declared.cmp.Ordering.TheVariants.{Less, Equal, Greater}
use Rattle.rules.specs.Forms.{Rule, turns, scan_row, scan, stroke, tally, painted, counted}
use Rattle.plane.specs.Done.{change, stamped, tallied, Stamped, RowDone, RowsDone}

-- ---- one pixel

pub tallied_few : (d : Option ℕ) (n : ℕ) → tallied d n ≤ n + 1
tallied_few None n = omega arith
tallied_few (Some b) n = omega arith

-- a pixel is changed, and counted, as its rule says
stamped-change : (rule : Rule) (pitch x y : ℕ) (bytes : List ℕ)
    → stamped (change rule x y (get_or bytes (y * pitch + x) 0)) (y * pitch + x) bytes ≡ stroke rule pitch x y bytes
unfolding change stroke
stamped-change rule pitch x y bytes = go (rule.writes x y) (rule.byte x y (get_or bytes (y * pitch + x) 0))
  where
    go : (b : Bool) (v : ℕ) → stamped (cond b (Some v) None) (y * pitch + x) bytes ≡ cond b (set bytes (y * pitch + x) v) bytes
    go true v = refl
    go false v = refl

tallied-change : (rule : Rule) (x y old n : ℕ) → tallied (change rule x y old) n ≡ tally rule x y n
unfolding change tally
tallied-change rule x y old n = go (rule.writes x y) (rule.byte x y old)
  where
    go : (b : Bool) (k : ℕ) → tallied (cond b (Some k) None) n ≡ cond b (n + 1) n
    go true k = refl
    go false k = refl

-- ---- one row

-- no pixel yet
pub row_none : (rule : Rule) (pitch y count : ℕ) (bytes : List ℕ) → RowDone rule pitch y 0 count bytes bytes count
unfolding turns scan_row
row_none rule pitch y count bytes = record { bytes = refl; tally = refl; few = omega arith }

-- one pixel more, of the byte that stands there now
pub row_more : {rule : Rule} {pitch y x count : ℕ} {before bytes after : List ℕ} {n r : ℕ} {d : Option ℕ}
    → RowDone rule pitch y x count before bytes n → d ≡ change rule x y (get_or bytes (y * pitch + x) 0) → Stamped bytes (y * pitch + x) d n after r
    → RowDone rule pitch y (x + 1) count before after r
unfolding turns scan_row
row_more {rule} {pitch} {y} {x} {bytes = bytes} {n = n} {d = d} done e s =
    record {
      bytes = s.bytes ∙ ap (λ (k : Option ℕ). stamped k (y * pitch + x) bytes) e ∙ stamped-change rule pitch x y bytes ∙ simp (done.bytes, add-one);
      tally = s.tally ∙ ap (λ (k : Option ℕ). tallied k n) e ∙ tallied-change rule x y (get_or bytes (y * pitch + x) 0) n ∙ simp (done.tally, add-one);
      few = omega (arith, tallied_few d n);
    }

keep_change : (rule : Rule) (x y old : ℕ) → rule.writes x y ≡ false → None ≡ change rule x y old
unfolding change
keep_change rule x y old e = sym (simp e)

-- a pixel that the rule does not write is passed over: nothing to do
pub row_skip : {rule : Rule} {pitch y x count : ℕ} {before bytes : List ℕ} {n : ℕ}
    → RowDone rule pitch y x count before bytes n → rule.writes x y ≡ false → RowDone rule pitch y (x + 1) count before bytes n
row_skip {rule} {pitch} {y} {x} {bytes = bytes} done e =
    row_more {d = None} done (keep_change rule x y (get_or bytes (y * pitch + x) 0) e) (record { bytes = refl; tally = refl })

-- and so is a run of them
pub row_skip_run : {rule : Rule} {pitch y x count : ℕ} {before bytes : List ℕ} {n : ℕ} (more : ℕ)
    → RowDone rule pitch y x count before bytes n → ((k : ℕ) → x ≤ k → k < x + more → rule.writes k y ≡ false)
    → RowDone rule pitch y (x + more) count before bytes n
row_skip_run {x = x} zero done none = let e : x + 0 ≡ x = omega arith in rw e done
row_skip_run {x = x} (suc more) done none =
    let e : x + suc more ≡ x + more + 1 = omega arith in
    rw e (row_skip (row_skip_run more done (λ k low high. none k low (omega arith))) (none (x + more) (omega arith) (omega arith)))

-- ---- the rows

-- no row yet
pub rows_none : (rule : Rule) (width pitch : ℕ) (bytes : List ℕ) → RowsDone rule width 0 pitch bytes bytes 0
unfolding turns scan painted counted
rows_none rule width pitch bytes = record { bytes = refl; tally = refl; few = omega arith }

-- one row more
pub rows_more : {rule : Rule} {width y pitch : ℕ} {before bytes after : List ℕ} {n r : ℕ}
    → width ≤ 4096 → RowsDone rule width y pitch before bytes n → RowDone rule pitch y width n bytes after r
    → RowsDone rule width (y + 1) pitch before after r
unfolding turns scan painted counted
rows_more small done row =
    record {
      bytes = simp (row.bytes, done.bytes, add-one);
      tally = simp (row.tally, done.tally, add-one);
      few = omega arith;
    }

-- ---- tests

-- two tests that mean the same are the same
pub tests_same : (p q : Bool) → (p ≡ true → q ≡ true) → (q ≡ true → p ≡ true) → p ≡ q
tests_same true q f g = sym (f refl)
tests_same false true f g = g refl
tests_same false false f g = refl

-- no remainder is a test of the remainder
pub multiple : (goes : Bool) (n by : ℕ) → (goes ≡ true) ↔ (n % by ≡ 0) → goes ≡ eqb (n % by) 0
multiple goes n by h = tests_same goes (eqb (n % by) 0) (λ t. eq-eqb (n % by) 0 (h.0 t)) (λ t. h.1 (eqb-true (n % by) 0 t))

-- at most, by the library's order of floats
pub at_most : (x y : Float) → partial_le float_partial_cmp x y ≡ le x y
unfolding le
at_most x y = go (lt x y) (eq x y) (lt y x)
  where
    go : (below same above : Bool) → is_some_and is_le (cond below (Some Less) (cond same (Some Equal) (cond above (Some Greater) None))) ≡ (below || same)
    go true same above = refl
    go false true above = refl
    go false false true = refl
    go false false false = refl

-- n is a times b where b goes into it, a times
pub product : (n a b : ℕ) → 0 < b → (eqb (n % b) 0 && eqb (n / b) a) ≡ eqb n (a * b)
product n a b some = go (eqb (n % b) 0) refl
  where
    go : (t : Bool) → eqb (n % b) 0 ≡ t → (t && eqb (n / b) a) ≡ eqb n (a * b)
    go true e =
        let none = eqb-true (n % b) 0 e in
        tests_same (eqb (n / b) a) (eqb n (a * b))
        (λ t. let d : a * b + n % b ≡ n = rw (eqb-true (n / b) a t) at (div-add-mod' n b) in eq-eqb n (a * b) (omega arith))
        (λ t. eq-eqb (n / b) a (rw (eqb-true n (a * b) t) (mul-div_cancel a some)))
    go false e = sym (ne_eqb n (a * b) (λ q. eqb-false (n % b) 0 e (rw q (mul-mod_left a b))))
