-- The cells of a pixel lie within its mask, and their sum fits. Assumes nothing.
use mathlib.Core.Path.{◌≡◌, ap, ◌∙◌}
use mathlib.Core.List.{List}
use Prim.Native.Nat.{ℕ, zero, suc, ◌+◌, ◌-◌, ◌*◌, ◌≤◌, ◌<◌}
use native.Mathlib.Nat.{mul-le-mul, mul-le-mul_right, suc-mul, mul_comm, mul_assoc, mul_left_comm, add_assoc, add-zero}
use native.Mathlib.Numerals.{add-one}
use native.Mathlib.Omega.{arith}
use lib.ListN.{length, get_or, take, drop}
use Rattle.std.specs.List.{sum}
use Rattle.std.proofs.Common.{length-drop}
use Rattle.std.proofs.lemmas.List.{get_or-drop, length-take}
use Rattle.std.proofs.lemmas.List.Sums.{sum_by_more}
use Rattle.rules.specs.Forms.{turns}
use Rattle.still_cells.specs.Cells.{row_sum, PixelCells, PlaneCells}

-- a row of them lies within the mask
pub row_inside : (bytes : List ℕ) (width across down x y dy : ℕ) → PixelCells bytes width across down x y → dy < down
    → (y * down + dy) * width + x * across + across ≤ length bytes
row_inside bytes width across down x y dy f below =
    let row : suc (y * down + dy) ≤ y * down + down = omega arith in
    omega (arith, mul-le-mul_right width row, f.left, f.inside, suc-mul (y * down + dy) width)

-- and is a run of bytes
pub row_run : (bytes : List ℕ) (row width x across n total : ℕ) → row * width + x * across + n ≤ length bytes
    → row_sum bytes row width x across n total ≡ total + sum (take n (drop (row * width + x * across) bytes))
unfolding turns row_sum
row_run bytes row width x across zero total h = rw add-zero
row_run bytes row width x across (suc n) total h =
    let first = row * width + x * across in
    let cells = drop first bytes in
    let inside : n < length cells = omega (arith, length-drop first bytes) in
    let next : get_or cells n 0 ≡ get_or bytes (row * width + (x * across + n)) 0 =
    get_or-drop first bytes n 0 ∙ ap (λ (k : ℕ). get_or bytes k 0) (add_assoc (row * width) (x * across) n)
    in
    let more : sum (take (suc n) cells) ≡ sum (take n cells) + get_or cells n 0 = rw add-one at (sum_by_more (λ b. b) cells n 0 inside) in
    omega (arith, row_run bytes row width x across n total (omega arith), more, next)

-- what the run gives
pub row_added : {bytes : List ℕ} {width across down x y dy row first r : ℕ} (total : ℕ) → PixelCells bytes width across down x y → dy < down
    → row ≡ y * down + dy → first ≡ row * width + x * across
    → r ≡ sum (take (first + across - first) (drop first bytes)) → r ≤ 255 * length (take (first + across - first) (drop first bytes))
    → (total + r ≡ row_sum bytes (y * down + dy) width x across across total) × (r ≤ 255 * across)
row_added {bytes} {width} {across} {down} {x} {y} {dy} {row} {first} {r} total f below p q whole few =
    let n : first + across - first ≡ across = omega arith in
    let inside = row_inside bytes width across down x y dy f below in
    let run = row_run bytes (y * down + dy) width x across across total inside in
    let sum_is : r ≡ sum (take across (drop ((y * down + dy) * width + x * across) bytes)) = rw (← p, ← q, ← n) whole in
    let most = rw n at few in
    let long : length (take across (drop first bytes)) ≤ across = omega (arith, length-take across (drop first bytes)) in
    (omega (arith, run, sum_is), omega (arith, most, long))

-- a row more of them
pub row_more : (dy across n r : ℕ) → n ≤ dy * (255 * across) → r ≤ n + 255 * across → r ≤ (dy + 1) * (255 * across)
row_more dy across n r a b = omega (arith, suc-mul dy (255 * across))

-- all of them
pub all_rows : (across down : ℕ) → down * (255 * across) ≡ 255 * (across * down)
all_rows across down = rw (mul_left_comm down 255 across, mul_comm down across)

-- those of a pixel of the plane that the mask covers
pub pixel_cells : {bytes : List ℕ} {width across down x y : ℕ} {size : ℕ × ℕ} → PlaneCells bytes width across down size → x < size.0 → y < size.1
    → PixelCells bytes width across down x y
pixel_cells {bytes} {width} {across} {down} {x} {y} {size} p before above =
    let left : suc x * across ≤ size.0 * across = mul-le-mul_right across before in
    let row : suc y * down ≤ size.1 * down = mul-le-mul_right down above in
    let rows : y * down + down ≤ size.1 * down = omega (arith, row, suc-mul y down) in
    let whole : size.1 * down * width ≡ length bytes = rw (mul_comm (size.1 * down) width, ← mul_assoc width size.1 down) p.long in
    record {
      near = omega (arith, before, p.narrow);
      high = omega (arith, above, p.low);
      some_across = p.some_across;
      some_down = p.some_down;
      few_across = p.few_across;
      few_down = p.few_down;
      narrow = omega (arith, p.wide, mul-le-mul p.narrow p.few_across);
      left = omega (arith, left, p.wide, suc-mul x across);
      low = omega (arith, rows, mul-le-mul p.low p.few_down);
      inside = omega (arith, mul-le-mul_right width rows, whole);
    }
