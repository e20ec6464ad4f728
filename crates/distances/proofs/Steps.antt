-- One step: which cells it reads, and what it keeps. Assumes nothing.
use mathlib.Core.Path.{◌≡◌, ap, ◌∙◌, subst}
use mathlib.Core.Logic.{◌≢◌, ◌⊎◌, inl, inr, ⊎_elim}
use mathlib.Core.List.{List}
use Prim.Native.Nat.{ℕ, suc, ◌+◌, ◌-◌, ◌*◌, ◌/◌, ◌%◌, ◌≤◌, ◌<◌, min}
use native.Mathlib.Nat.{mod-lt, div-add-mod'}
use native.Mathlib.Decide.{ℕ_discrete, dec_lt}
use native.Mathlib.Omega.{arith}
use lib.ListN.{length, get_or, set, length-set}
use lib.Seq.{get_or-set_same, get_or-set_other}
use Rattle.rules.specs.Distances.{whole, nearest_to}
use Rattle.distances.specs.Pass.{lowest_of, Rows, Within, Smooth, Down, Back, Kept}
use Rattle.distances.proofs.Grid.{spot, cell, row_in, row_mono, nearest_smooth}

-- ---- which cells a step reads

-- v is the least of cell i and of 1 more than cells of the first n that touch it, those of S among them
pub record Lowered (S : ℕ → Type 0) (w n : ℕ) (cells : List ℕ) (i v : ℕ) : Type 0 where
  pub own : v ≤ get_or cells i 0
  pub each : (q : ℕ) → S q → v ≤ get_or cells q 0 + 1
  pub most : (m : ℕ) → m ≤ get_or cells i 0 → ((q : ℕ) → q < n → Within w 1 i q → m ≤ get_or cells q 0 + 1) → m ≤ v

-- what `lowest` answers, of the numbers that it reads
lowest_below : (own left right mid beside v : ℕ) → v ≡ min (min own (min (min left right) mid + 1)) (beside + 1)
    → (v ≤ own) × (v ≤ left + 1) × (v ≤ mid + 1) × (v ≤ right + 1) × (v ≤ beside + 1)
lowest_below own left right mid beside v e = omega arith

lowest_most : (own left right mid beside v m : ℕ) → v ≡ min (min own (min (min left right) mid + 1)) (beside + 1)
    → m ≤ own → m ≤ left + 1 → m ≤ mid + 1 → m ≤ right + 1 → m ≤ beside + 1 → m ≤ v
lowest_most own left right mid beside v m e a b c d f = omega arith

-- a column that touches column x is one of three
columns : (w x c left right : ℕ) → x < w → c < w → c ≤ x + 1 → x ≤ c + 1 → left ≡ x - 1 → right ≡ min (x + 1) (w - 1)
    → (c ≡ left) ⊎ ((c ≡ x) ⊎ (c ≡ right))
columns w x c left right hx hc a b l r = go (dec_lt c x) (dec_lt x c)
  where
    go : Dec (c < x) → Dec (x < c) → (c ≡ left) ⊎ ((c ≡ x) ⊎ (c ≡ right))
    go (yes d) e = inl (omega arith)
    go (no d) (yes e) = inr (inr (omega arith))
    go (no d) (no e) = inr (inl (omega arith))

-- a step at column x of row y reads three cells of row z, and the one beside it
module _ (w size x y z first other left right side : ℕ) (cells : List ℕ) (v : ℕ) (rows : Rows w size y z first other)
    (hx : x < w) (hz : z < size / w) (zy : z ≤ y + 1) (yz : y ≤ z + 1) (l : left ≡ x - 1) (r : right ≡ min (x + 1) (w - 1))
    (hs : side < w) (sx : side ≤ x + 1) (xs : x ≤ side + 1)
    (e : v ≡ lowest_of cells (first + x) (other + left) (other + x) (other + right) (get_or cells (first + side) 0)) where
  pub lowered : (S : ℕ → Type 0) → ((q : ℕ) → S q → Within w 1 (first + x) q × ((q / w ≡ z) ⊎ ((q / w ≡ y) × (q % w ≡ side))))
      → Lowered S w (size / w * w) cells (first + x) v
  lowered S s = record {
    own = below.0;
    each = λ q t. ⊎_elim (across q (s q t).0) (λ a. under q (first + side) (omega (arith, cell w q side y a.1 a.0)) below.4) (s q t).1;
    most = λ m a b.
        lowest_most _ _ _ _ _ v m e a
        (near m b left z (other + left) (omega arith) (omega arith) (omega arith) hz zy yz (omega arith))
        (near m b x z (other + x) hx (omega arith) (omega arith) hz zy yz (omega arith))
        (near m b right z (other + right) (omega arith) (omega arith) (omega arith) hz zy yz (omega arith))
        (near m b side y (first + side) hs sx xs rows.inside (omega arith) (omega arith) (omega arith));
  }
    where
      below : (v ≤ get_or cells (first + x) 0) × (v ≤ get_or cells (other + left) 0 + 1) × (v ≤ get_or cells (other + x) 0 + 1)
          × (v ≤ get_or cells (other + right) 0 + 1) × (v ≤ get_or cells (first + side) 0 + 1)
      below = lowest_below _ _ _ _ _ v e

      here : (first + x < size / w * w) × ((first + x) % w ≡ x) × ((first + x) / w ≡ y)
      here = spot w (size / w) x y (first + x) hx rows.inside (omega arith)

      under : (q k : ℕ) → q ≡ k → v ≤ get_or cells k 0 + 1 → v ≤ get_or cells q 0 + 1
      under q k a b = omega (arith, ap (λ (j : ℕ). get_or cells j 0) a)

      across : (q : ℕ) → Within w 1 (first + x) q → q / w ≡ z → v ≤ get_or cells q 0 + 1
      across q t a =
          ⊎_elim (λ b. under q (other + left) (omega (arith, cell w q left z b a)) below.1)
          (⊎_elim (λ b. under q (other + x) (omega (arith, cell w q x z b a)) below.2)
          (λ b. under q (other + right) (omega (arith, cell w q right z b a)) below.3))
          (columns w x (q % w) left right hx (mod-lt q (omega arith)) (omega (arith, here)) (omega (arith, here)) l r)

      near : (m : ℕ) → ((q : ℕ) → q < size / w * w → Within w 1 (first + x) q → m ≤ get_or cells q 0 + 1)
          → (c d k : ℕ) → c < w → c ≤ x + 1 → x ≤ c + 1 → d < size / w → d ≤ y + 1 → y ≤ d + 1 → k ≡ d * w + c → m ≤ get_or cells k 0 + 1
      near m b c d k hc cx xc hd dy yd g =
          let t = spot w (size / w) c d k hc hd g in
          b k t.0 (record { xa = omega (arith, here); xb = omega (arith, here); ya = omega (arith, here); yb = omega (arith, here) })

-- the cells before cell i that touch it stand left of it, or in the row above
pub ways_before : (w i q : ℕ) → 0 < w → (q < i) × Within w 1 i q → (q / w ≡ i / w - 1) ⊎ ((q / w ≡ i / w) × (q % w ≡ i % w - 1))
ways_before w i q z t = go (ℕ_discrete (q / w) (i / w))
  where
    go : Dec (q / w ≡ i / w) → (q / w ≡ i / w - 1) ⊎ ((q / w ≡ i / w) × (q % w ≡ i % w - 1))
    go (yes e) = inr (e, omega (arith, div-add-mod' i w, div-add-mod' q w, ap (λ (n : ℕ). n * w) e))
    go (no d) = inl (omega (arith, row_mono w q i z (omega arith)))

-- those after it right of it, or in the row below
pub ways_after : (w h i q : ℕ) → 0 < w → (i < q) × (q < h * w) × Within w 1 i q
    → (q / w ≡ min (i / w + 1) (h - 1)) ⊎ ((q / w ≡ i / w) × (q % w ≡ min (i % w + 1) (w - 1)))
ways_after w h i q z t = go (ℕ_discrete (q / w) (i / w))
  where
    go : Dec (q / w ≡ i / w) → (q / w ≡ min (i / w + 1) (h - 1)) ⊎ ((q / w ≡ i / w) × (q % w ≡ min (i % w + 1) (w - 1)))
    go (yes e) =
        let c : q % w ≡ i % w + 1 = omega (arith, div-add-mod' i w, div-add-mod' q w, ap (λ (n : ℕ). n * w) e) in
        inr (e, omega (arith, mod-lt q z))
    go (no d) =
        let e : q / w ≡ i / w + 1 = omega (arith, row_mono w i q z (omega arith)) in
        inl (omega (arith, row_in w h q z t.1))

-- ---- what a step keeps

-- a cell after a store
at_set : (l : List ℕ) (i v k : ℕ) → i < length l
    → ((k ≡ i) × (get_or (set l i v) k 0 ≡ v)) ⊎ ((k ≢ i) × (get_or (set l i v) k 0 ≡ get_or l k 0))
at_set l i v k h = go (ℕ_discrete k i)
  where
    go : Dec (k ≡ i) → ((k ≡ i) × (get_or (set l i v) k 0 ≡ v)) ⊎ ((k ≢ i) × (get_or (set l i v) k 0 ≡ get_or l k 0))
    go (yes e) = inl (e, ap (λ (j : ℕ). get_or (set l i v) j 0) e ∙ get_or-set_same l i v 0 h)
    go (no d) = inr (d, get_or-set_other l i k v 0 d)

module _ (w n : ℕ) (cells : List ℕ) (i v : ℕ) (hi : i < n) (short : n ≤ length cells) where
  pub kept_step : (S : ℕ → Type 0) → Lowered S w n cells i v → (old : List ℕ) → n ≡ whole old w → Kept old w cells → Kept old w (set cells i v)
  kept_step S L old e K = record {
    same = length-set cells i v ∙ K.same;
    low = λ k h. ⊎_elim
        (λ a. omega (
          arith,
          a.1,
          ap (nearest_to old w) a.0,
          L.most (nearest_to old w i) (K.low i (omega arith)) (λ q l t. omega (arith, K.low q (omega arith), nearest_smooth old w i q t)),
        ))
        (λ a. omega (arith, a.1, K.low k h))
        (at_set cells i v k (omega arith));
    high = λ k. ⊎_elim
        (λ a. omega (arith, a.1, L.own, K.high i, ap (λ (j : ℕ). get_or old j 0) a.0))
        (λ a. omega (arith, a.1, K.high k))
        (at_set cells i v k (omega arith));
    tail = λ k h. get_or-set_other cells i k v 0 (omega arith) ∙ K.tail k h;
  }

  smooth_step : (S S' : ℕ → ℕ → Type 0) → Smooth S w cells → ((p q : ℕ) → p ≢ i → q ≢ i → S' p q → S p q)
      → ((q : ℕ) → q ≢ i → S' i q → Within w 1 i q → v ≤ get_or cells q 0 + 1)
      → ((p : ℕ) → p ≢ i → S' p i → Within w 1 p i → get_or cells p 0 ≤ v + 1)
      → Smooth S' w (set cells i v)
  smooth_step S S' s others from to = record {
    step = λ p q o t. ⊎_elim
        (λ a. ⊎_elim
        (λ b. omega (arith, a.1, b.1))
        (λ b. omega (arith, a.1, b.1, from q b.0 (subst (λ (j : ℕ). S' j q) a.0 o) (subst (λ (j : ℕ). Within w 1 j q) a.0 t)))
        (at_set cells i v q (omega arith)))
        (λ a. ⊎_elim
        (λ b. omega (arith, a.1, b.1, to p a.0 (subst (λ (j : ℕ). S' p j) b.0 o) (subst (λ (j : ℕ). Within w 1 p j) b.0 t)))
        (λ b. omega (arith, a.1, b.1, s.step p q (others p q a.0 b.0 o) t))
        (at_set cells i v q (omega arith)))
        (at_set cells i v p (omega arith));
  }

  pub down_step : (j : ℕ) → j ≡ i + 1 → Lowered (λ q. (q < i) × Within w 1 i q) w n cells i v → Down w i cells → Down w j (set cells i v)
  down_step j e L s = smooth_step _ _ s
      (λ p q a b o. omega arith)
      (λ q d o t. L.each q (omega arith, t))
      (λ p d o t. absurd (omega arith))

-- two cells that stand after cell i and touch it are one, or touch the cell below it
record Hub (w n i p r : ℕ) : Type 0 where
  inside : i + w < n
  first : Within w 1 p (i + w)
  second : Within w 1 (i + w) r

hub : (w h i p r : ℕ) → 0 < w → i < p → p < h * w → Within w 1 p i → i < r → r < h * w → Within w 1 i r → (p ≡ r) ⊎ Hub w (h * w) i p r
hub w h i p r z ip pn s ir rn t = go (ℕ_discrete (p / w) (i / w)) (ℕ_discrete (r / w) (i / w))
  where
    via : suc (i / w) < h → Hub w (h * w) i p r
    via l =
        let c = spot w h (i % w) (suc (i / w)) (i + w) (mod-lt i z) l (omega (arith, div-add-mod' i w)) in
        let ep = row_mono w i p z (omega arith) in
        let er = row_mono w i r z (omega arith) in
        record {
          inside = c.0;
          first = record { xa = omega arith; xb = omega arith; ya = omega arith; yb = omega arith };
          second = record { xa = omega arith; xb = omega arith; ya = omega arith; yb = omega arith };
        }

    beside : (q : ℕ) → i < q → q % w ≤ i % w + 1 → q / w ≡ i / w → q ≡ i + 1
    beside q l c e = omega (arith, div-add-mod' i w, div-add-mod' q w, ap (λ (n : ℕ). n * w) e)

    go : Dec (p / w ≡ i / w) → Dec (r / w ≡ i / w) → (p ≡ r) ⊎ Hub w (h * w) i p r
    go (yes e) (yes f) = inl (omega (arith, beside p ip s.xa e, beside r ir t.xb f))
    go (no e) d = inr (via (omega (arith, row_mono w i p z (omega arith), row_in w h p z pn)))
    go (yes e) (no f) = inr (via (omega (arith, row_mono w i r z (omega arith), row_in w h r z rn)))

pub back_step : (w h : ℕ) (cells : List ℕ) (i v : ℕ) → i < h * w → h * w ≤ length cells → 0 < w → (j : ℕ) → j ≡ i + 1
    → Lowered (λ q. (i < q) × (q < h * w) × Within w 1 i q) w (h * w) cells i v → Back w (h * w) j cells → Back w (h * w) i (set cells i v)
back_step w h cells i v hi short z j e L s = smooth_step w (h * w) cells i v hi short _ _ s
    (λ p q a b o. (o.0, o.1, ⊎_elim (λ l. inl (omega arith)) inr o.2))
    (λ q d o t. from q o.1 t (dec_lt i q))
    (λ p d o t. to p o.0 (⊎_elim (λ l. omega arith) (λ l. omega arith) o.2) t)
  where
    from : (q : ℕ) → q < h * w → Within w 1 i q → Dec (i < q) → v ≤ get_or cells q 0 + 1
    from q hq t (yes l) = L.each q (l, hq, t)
    from q hq t (no l) = omega (arith, L.own, s.step i q (hi, hq, inr (omega arith)) t)

    to : (p : ℕ) → p < h * w → i < p → Within w 1 p i → get_or cells p 0 ≤ v + 1
    to p hp l t =
        let m = L.most (get_or cells p 0 - 1) (omega (arith, s.step p i (hp, hi, inr (omega arith)) t)) (λ r hr u. past r hr u (dec_lt i r)) in
        omega arith
      where
        past : (r : ℕ) → r < h * w → Within w 1 i r → Dec (i < r) → get_or cells p 0 - 1 ≤ get_or cells r 0 + 1
        past r hr u (no g) = omega (arith, s.step p i (hp, hi, inr (omega arith)) t, s.step i r (hi, hr, inr (omega arith)) u)
        past r hr u (yes g) = ⊎_elim
            (λ f. omega (arith, ap (λ (k : ℕ). get_or cells k 0) f))
            (λ f. omega (
              arith,
              s.step p (i + w) (hp, f.inside, inl (omega arith)) f.first,
              s.step (i + w) r (f.inside, hr, inl (omega arith)) f.second,
            ))
            (hub w h i p r z l hp t g hr u)
