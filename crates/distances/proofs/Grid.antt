-- Cells in rows of w: which touch, the way from one to another, and the least over them. Assumes nothing.
use mathlib.Core.Path.{◌≡◌, refl, ap, ◌∙◌}
use mathlib.Core.List.{List}
use Prim.Native.Nat.{ℕ, zero, suc, ◌+◌, ◌-◌, ◌*◌, ◌/◌, ◌%◌, ◌≤◌, ◌<◌, max}
use native.Mathlib.Nat.{mod-lt, mod-eq_of_lt, div-eq_of_lt, div-add-mod', mul-add-mod_self_right, mul-add-div_right, div-lt_iff_lt-mul, le-div_iff_mul-le, div-mul-le_self, mul-le-mul_right}
use native.Mathlib.Decide.{ℕ_discrete, dec_lt}
use native.Mathlib.Omega.{arith}
use lib.ListN.{length, get_or}
use Rattle.rules.specs.Distances.{chess, least, whole, nearest_to}
use Rattle.laws.proofs.Marks.{least_small}
use Rattle.distances.specs.Pass.{Within, Smooth}

-- ---- columns and rows

-- the distance is at most m exactly when columns and rows are
max_within : (a b c d m : ℕ) → max (max a b) (max c d) ≤ m → (a ≤ m) × (b ≤ m) × (c ≤ m) × (d ≤ m)
max_within a b c d m h = omega arith

within_max : (a b c d m : ℕ) → a ≤ m → b ≤ m → c ≤ m → d ≤ m → max (max a b) (max c d) ≤ m
within_max a b c d m p q r s = omega arith

unsub : (a b m : ℕ) → a - b ≤ m → a ≤ b + m
unsub a b m h = omega arith

pub chess→ : (w m i j : ℕ) → chess w i j ≤ m → Within w m i j
chess→ w m i j h =
    let e = max_within (i % w - j % w) (j % w - i % w) (i / w - j / w) (j / w - i / w) m h in
    record { xa = unsub _ _ _ e.0; xb = unsub _ _ _ e.1; ya = unsub _ _ _ e.2; yb = unsub _ _ _ e.3 }

pub →chess : (w m i j : ℕ) → Within w m i j → chess w i j ≤ m
→chess w m i j t = within_max (i % w - j % w) (j % w - i % w) (i / w - j / w) (j / w - i / w) m (omega arith) (omega arith) (omega arith) (omega arith)

-- the cell in column x of row y, of h rows
pub spot : (w h x y i : ℕ) → x < w → y < h → i ≡ y * w + x → (i < h * w) × (i % w ≡ x) × (i / w ≡ y)
spot w h x y i hx hy e = (
  omega (arith, mul-le-mul_right w hy),
  ap (λ (n : ℕ). n % w) e ∙ mul-add-mod_self_right y w x ∙ mod-eq_of_lt hx,
  ap (λ (n : ℕ). n / w) e ∙ mul-add-div_right (omega arith) y x ∙ simp (div-eq_of_lt hx) (omega arith),
)

-- a column and a row have one cell
pub cell : (w i x y : ℕ) → i % w ≡ x → i / w ≡ y → i ≡ y * w + x
cell w i x y c r = omega (arith, div-add-mod' i w, ap (λ (n : ℕ). n * w) r)

pub row_in : (w h i : ℕ) → 0 < w → i < h * w → i / w < h
row_in w h i p q = (div-lt_iff_lt-mul p).1 q

pub row_mono : (w i j : ℕ) → 0 < w → i ≤ j → i / w ≤ j / w
row_mono w i j p h = (le-div_iff_mul-le p).1 (omega (arith, div-mul-le_self i w))

-- ---- the way from one cell to another

-- a step from a towards b
toward : (n a b m : ℕ) → a < n → b < n → a ≤ b + suc m → b ≤ a + suc m
    → (c : ℕ) × (c < n) × (a ≤ c + 1) × (c ≤ a + 1) × (c ≤ b + m) × (b ≤ c + m)
toward n a b m ha hb p q = go (dec_lt a b) (dec_lt b a)
  where
    go : Dec (a < b) → Dec (b < a) → (c : ℕ) × (c < n) × (a ≤ c + 1) × (c ≤ a + 1) × (c ≤ b + m) × (b ≤ c + m)
    go (yes l) d = (a + 1, omega arith, omega arith, omega arith, omega arith, omega arith)
    go (no g) (yes l) = (a - 1, omega arith, omega arith, omega arith, omega arith, omega arith)
    go (no g) (no k) = (a, omega arith, omega arith, omega arith, omega arith, omega arith)

-- the cell of the grid one step from i towards j
record Step (w n m i j k : ℕ) : Type 0 where
  inside : k < n
  first : Within w 1 i k
  rest : Within w m k j

step : (w h m i j : ℕ) → 0 < w → i < h * w → j < h * w → Within w (suc m) i j → (k : ℕ) × Step w (h * w) m i j k
step w h m i j p hi hj t =
    let x = toward w (i % w) (j % w) m (mod-lt i p) (mod-lt j p) t.xa t.xb in
    let y = toward h (i / w) (j / w) m (row_in w h i p hi) (row_in w h j p hj) t.ya t.yb in
    let s = spot w h x.0 y.0 (y.0 * w + x.0) x.1 y.1 refl in (
      y.0 * w + x.0,
      record {
        inside = s.0;
        first = record { xa = omega arith; xb = omega arith; ya = omega arith; yb = omega arith };
        rest = record { xa = omega arith; xb = omega arith; ya = omega arith; yb = omega arith };
      },
    )

-- where touching cells of a grid differ by at most 1, cells m apart differ by at most m
pub far : (w h : ℕ) (cells : List ℕ) → 0 < w → Smooth (λ p q. (p < h * w) × (q < h * w)) w cells
    → (m i j : ℕ) → i < h * w → j < h * w → Within w m i j → get_or cells i 0 ≤ get_or cells j 0 + m
far w h cells p s zero i j hi hj t =
    let e : i ≡ j = cell w i (j % w) (j / w) (omega arith) (omega arith) ∙ div-add-mod' j w in
    omega (arith, ap (λ (k : ℕ). get_or cells k 0) e)
far w h cells p s (suc m) i j hi hj t =
    let k = step w h m i j p hi hj t in
    omega (arith, s.step i k.0 (hi, k.1.inside) k.1.first, far w h cells p s m k.0 j k.1.inside hj k.1.rest)

-- ---- the nearest

-- `least` is the greatest lower bound
least_at : (f : ℕ → ℕ) (n j : ℕ) → j < n → least f n ≤ f j
unfolding least
least_at f zero j h = omega arith
least_at f (suc n) j h = go (ℕ_discrete j n) (λ l. least_at f n j l)
  where
    go : Dec (j ≡ n) → (j < n → least f n ≤ f j) → least f (suc n) ≤ f j
    go (yes e) r = omega (arith, ap f e)
    go (no d) r = omega (arith, r (omega arith))

least_glb : (f : ℕ → ℕ) (n c m : ℕ) → m ≤ 255 + c → ((j : ℕ) → j < n → m ≤ f j + c) → m ≤ least f n + c
unfolding least
least_glb f zero c m h e = h
least_glb f (suc n) c m h e = omega (arith, e n (omega arith), least_glb f n c m h (λ j l. e j (omega arith)))

nearest_top : (old : List ℕ) (w k : ℕ) → nearest_to old w k ≤ 255
unfolding nearest_to
nearest_top old w k = least_small (λ j. get_or old j 0 + chess w k j) (whole old w)

nearest_at : (old : List ℕ) (w k j m : ℕ) → j < whole old w → Within w m k j → nearest_to old w k ≤ get_or old j 0 + m
unfolding nearest_to
nearest_at old w k j m h t = omega (arith, least_at (λ i. get_or old i 0 + chess w k i) (whole old w) j h, →chess w m k j t)

pub nearest_own : (old : List ℕ) (w k : ℕ) → k < whole old w → nearest_to old w k ≤ get_or old k 0
nearest_own old w k h = let e = nearest_at old w k k 0 h (omega arith) in omega arith

further : (w m i j k : ℕ) → Within w 1 i k → Within w m k j → Within w (m + 1) i j
further w m i j k s t = record { xa = omega arith; xb = omega arith; ya = omega arith; yb = omega arith }

-- the distances of touching cells differ by at most 1
pub nearest_smooth : (old : List ℕ) (w i j : ℕ) → Within w 1 i j → nearest_to old w i ≤ nearest_to old w j + 1
unfolding nearest_to
nearest_smooth old w i j t =
    least_glb (λ k. get_or old k 0 + chess w j k) (whole old w) 1 (nearest_to old w i) (omega (arith, nearest_top old w i))
    (λ k l. omega (arith, nearest_at old w i k (chess w j k + 1) l (further w (chess w j k) i k j t (chess→ w (chess w j k) j k (omega arith)))))

-- cells that are nowhere above the old ones, nowhere below the nearest, at most 255 and smooth, are the nearest
pub exact : (old cells : List ℕ) (w : ℕ) → 0 < w
    → ((k : ℕ) → k < whole old w → nearest_to old w k ≤ get_or cells k 0)
    → ((k : ℕ) → get_or cells k 0 ≤ get_or old k 0)
    → ((k : ℕ) → get_or cells k 0 ≤ 255)
    → Smooth (λ p q. (p < whole old w) × (q < whole old w)) w cells
    → (k : ℕ) → k < whole old w → get_or cells k 0 ≡ nearest_to old w k
unfolding nearest_to
exact old cells w p low high top s k h =
    let near = least_glb (λ j. get_or old j 0 + chess w k j) (whole old w) 0 (get_or cells k 0) (omega (arith, top k)) (λ j l.
    omega (arith, high j, far w (length old / w) cells p s (chess w k j) k j h l (chess→ w (chess w k j) k j (omega arith)))) in
    omega (arith, low k h)
