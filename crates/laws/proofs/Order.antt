-- The order of floats, NaN and the infinities included: `le` is transitive, and so are its mixes with `lt`. Assumes
-- nothing.
use mathlib.Core.Path.{◌≡◌, sym, ap, ◌∙◌, subst}
use mathlib.Core.Logic.{◌⊎◌, inl, inr}
use Prim.Native.Nat.{ℕ, ◌+◌, ◌*◌, ◌≤◌, ◌<◌}
use native.Mathlib.Nat.{le_of_eq, le_of_lt, eq-or-lt_of_le, eq-zero-or-pos, mul-pos, zero-mul, lt_irrefl}
use native.Mathlib.Omega.{arith}
use mathlib.Core.Bool.{Bool, true, false, not, ◌&&◌, ◌||◌}
use lib.Dec.{T, ltb, eqb, eqb→eq, ltb→lt, lt→ltb, nltb→le, T_not, not_T}
use lib.Ieee.{Float, nan, inf, fin, up, down, below, level, lt, eq, le, is_nan}
use lib.Ieee.Fits.{down_pos, and_i, and_l, and_r, eq→eqb}
use lib.Ieee.Positive.{through}

or_split : (a b : Bool) → T (a || b) → T a ⊎ T b
or_split true b t = inl tt
or_split false b t = inr t

or_l : (a b : Bool) → T a → T (a || b)
or_l true b t = tt
or_l false b t = absurd t

pub or_r : (a b : Bool) → T b → T (a || b)
or_r true b t = tt
or_r false b t = t

test→le : (x y : ℕ) → T (ltb x y || (eqb x y && true)) → x ≤ y
test→le x y t = elim (or_split (ltb x y) (eqb x y && true) t) [ inl u ↦ le_of_lt (ltb→lt x y u) | inr u ↦ le_of_eq (eqb→eq x y (and_l (eqb x y) true u)) ]

le→test : (x y : ℕ) → x ≤ y → T (ltb x y || (eqb x y && true))
le→test x y h = elim (eq-or-lt_of_le h) [ inl p ↦ or_r (ltb x y) (eqb x y && true) (and_i (eqb x y) true (eq→eqb p) tt) | inr q ↦ or_l (ltb x y) (eqb x y && true) (lt→ltb x y q) ]

pub zero_of : (a q : ℕ) → 0 < q → a * q ≡ 0 → a ≡ 0
zero_of a q Q h = elim (eq-zero-or-pos a) [ inl z ↦ z | inr p ↦ absurd (lt_irrefl 0 (subst (λ (k : ℕ). 0 < k) h (mul-pos p Q))) ]

-- ±a / p ≤ ±b / q
abbrev pub Below : Bool → ℕ → ℕ → Bool → ℕ → ℕ → Type 0
Below false a p false b q = a * q ≤ b * p
Below false a p true b q = (a ≡ 0) × (b ≡ 0)
Below true a p false b q = Unit
Below true a p true b q = b * p ≤ a * q

abbrev test : Bool → ℕ → Bool → ℕ → Bool
test s x t y = below s x t y || level s x t y

pub opened : (s : Bool) (a p : ℕ) (t : Bool) (b q : ℕ) → 0 < p → 0 < q → T (test s (a * q) t (b * p)) → Below s a p t b q
opened false a p false b q P Q h = test→le (a * q) (b * p) h
opened false a p true b q P Q h =
    let z : a * q ≡ 0 = eqb→eq (a * q) 0 (and_r (eqb (a * q) (b * p)) (eqb (a * q) 0) h) in
    (zero_of a q Q z, zero_of b p P (sym (eqb→eq (a * q) (b * p) (and_l (eqb (a * q) (b * p)) (eqb (a * q) 0) h)) ∙ z))
opened true a p false b q P Q h = tt
opened true a p true b q P Q h = swap (or_split (ltb (b * p) (a * q)) (eqb (a * q) (b * p) && true) h)
  where
    swap : T (ltb (b * p) (a * q)) ⊎ T (eqb (a * q) (b * p) && true) → b * p ≤ a * q
    swap (inl u) = le_of_lt (ltb→lt (b * p) (a * q) u)
    swap (inr u) = le_of_eq (sym (eqb→eq (a * q) (b * p) (and_l (eqb (a * q) (b * p)) true u)))

pub shut : (s : Bool) (a p : ℕ) (t : Bool) (b q : ℕ) → Below s a p t b q → T (test s (a * q) t (b * p))
shut false a p false b q h = le→test (a * q) (b * p) h
shut false a p true b q h =
    let x : a * q ≡ 0 = ap (λ (k : ℕ). k * q) h.0 ∙ zero-mul q in
    let y : b * p ≡ 0 = ap (λ (k : ℕ). k * p) h.1 ∙ zero-mul p in
    and_i (eqb (a * q) (b * p)) (eqb (a * q) 0) (eq→eqb (x ∙ sym y)) (eq→eqb x)
shut true a p false b q h = elim (eq-zero-or-pos (a * q + b * p)) [
  | inl z ↦ or_r (ltb 0 (a * q + b * p)) (eqb (a * q) (b * p) && eqb (a * q) 0) (and_i (eqb (a * q) (b * p)) (eqb (a * q) 0) (eq→eqb (same (a * q) (b * p) z)) (eq→eqb (first (a * q) (b * p) z)))
  | inr l ↦ or_l (ltb 0 (a * q + b * p)) (eqb (a * q) (b * p) && eqb (a * q) 0) (lt→ltb 0 (a * q + b * p) l)
]
  where
    same : (x y : ℕ) → x + y ≡ 0 → x ≡ y
    same x y h = omega arith

    first : (x y : ℕ) → x + y ≡ 0 → x ≡ 0
    first x y h = omega arith
shut true a p true b q h = elim (eq-or-lt_of_le h) [
  | inl e ↦ or_r (ltb (b * p) (a * q)) (eqb (a * q) (b * p) && true) (and_i (eqb (a * q) (b * p)) true (eq→eqb (sym e)) tt)
  | inr l ↦ or_l (ltb (b * p) (a * q)) (eqb (a * q) (b * p) && true) (lt→ltb (b * p) (a * q) l)
]

pub none : (a q : ℕ) → a ≡ 0 → a * q ≡ 0
none a q h = ap (λ (k : ℕ). k * q) h ∙ zero-mul q

at_most : (x y : ℕ) → x ≡ 0 → x ≤ y
at_most x y h = omega arith

nothing : (x y : ℕ) → x ≤ y → y ≡ 0 → x ≡ 0
nothing x y h e = omega arith

chain : (s : Bool) (a p : ℕ) (t : Bool) (b q : ℕ) (u : Bool) (c r : ℕ) → 0 < p → 0 < q → 0 < r → Below s a p t b q → Below t b q u c r → Below s a p u c r
chain false a p false b q false c r P Q R h k = through a b c p q r Q h k
chain false a p false b q true c r P Q R h k = (zero_of a q Q (nothing (a * q) (b * p) h (none b p k.0)), k.1)
chain false a p true b q false c r P Q R h k = at_most (a * r) (c * p) (none a r h.0)
chain false a p true b q true c r P Q R h k = (h.0, zero_of c q Q (nothing (c * q) (b * r) k (none b r h.1)))
chain true a p false b q false c r P Q R h k = tt
chain true a p false b q true c r P Q R h k = at_most (c * p) (a * r) (none c p k.1)
chain true a p true b q false c r P Q R h k = tt
chain true a p true b q true c r P Q R h k = through c b a r q p Q k h

pub le_trans_float : (x y z : Float) → T (le x y) → T (le y z) → T (le x z)
unfolding le
le_trans_float nan y z h k = absurd h
le_trans_float (inf s) nan z h k = absurd h
le_trans_float (inf true) (inf t) nan h k = absurd (at_nan t k)
  where
    at_nan : (t : Bool) → T (le (inf t) nan) → ⊥
    at_nan t k = k
le_trans_float (inf true) (inf t) (inf true) h k = tt
le_trans_float (inf true) (inf t) (inf false) h k = tt
le_trans_float (inf true) (inf t) (fin u l g) h k = tt
le_trans_float (inf false) (inf true) z h k = absurd h
le_trans_float (inf false) (inf false) z h k = k
le_trans_float (inf true) (fin t n d) nan h k = absurd k
le_trans_float (inf true) (fin t n d) (inf true) h k = tt
le_trans_float (inf true) (fin t n d) (inf false) h k = tt
le_trans_float (inf true) (fin t n d) (fin u l g) h k = tt
le_trans_float (inf false) (fin t n d) z h k = absurd h
le_trans_float (fin s m e) nan z h k = absurd h
le_trans_float (fin s m e) (inf true) z h k = absurd h
le_trans_float (fin s m e) (inf false) nan h k = absurd k
le_trans_float (fin s m e) (inf false) (inf true) h k = absurd k
le_trans_float (fin s m e) (inf false) (inf false) h k = tt
le_trans_float (fin s m e) (inf false) (fin u l g) h k = absurd k
le_trans_float (fin s m e) (fin t n d) nan h k = absurd k
le_trans_float (fin s m e) (fin t n d) (inf true) h k = absurd k
le_trans_float (fin s m e) (fin t n d) (inf false) h k = tt
le_trans_float (fin s m e) (fin t n d) (fin u l g) h k =
    shut s (m * up e) (down e) u (l * up g) (down g)
    (chain s (m * up e) (down e) t (n * up d) (down d) u (l * up g) (down g) (down_pos e) (down_pos d) (down_pos g)
    (opened s (m * up e) (down e) t (n * up d) (down d) (down_pos e) (down_pos d) h)
    (opened t (n * up d) (down d) u (l * up g) (down g) (down_pos d) (down_pos g) k))

-- ---- `lt` is the other side of `le`
clash : (x y : ℕ) → x ≤ y → y < x → ⊥
clash x y h k = omega arith

never : (s : Bool) (a p : ℕ) (t : Bool) (b q : ℕ) → Below s a p t b q → T (below t (b * p) s (a * q)) → ⊥
never false a p false b q h k = clash (a * q) (b * p) h (ltb→lt (b * p) (a * q) k)
never false a p true b q h k = empty (b * p) (a * q) (none b p h.1) (none a q h.0) (ltb→lt 0 (b * p + a * q) k)
  where
    empty : (x y : ℕ) → x ≡ 0 → y ≡ 0 → 0 < x + y → ⊥
    empty x y h k l = omega arith
never true a p false b q h k = k
never true a p true b q h k = clash (b * p) (a * q) h (ltb→lt (a * q) (b * p) k)

-- two numbers with nothing in their sum
pub neither : (x y : ℕ) → x + y ≤ 0 → (x ≡ 0) × (y ≡ 0)
neither x y h = (omega arith, omega arith)

other : (s : Bool) (a p : ℕ) (t : Bool) (b q : ℕ) → 0 < p → 0 < q → T (not (below t (b * p) s (a * q))) → Below s a p t b q
other false a p false b q P Q h = nltb→le (b * p) (a * q) h
other false a p true b q P Q h =
    let z : b * p + a * q ≤ 0 = nltb→le 0 (b * p + a * q) h in
    let n = neither (b * p) (a * q) z in
    (zero_of a q Q n.1, zero_of b p P n.0)
other true a p false b q P Q h = tt
other true a p true b q P Q h = nltb→le (a * q) (b * p) h

pub not_lt_of_le : (x y : Float) → T (le x y) → T (lt y x) → ⊥
unfolding le
not_lt_of_le nan y h k = h
not_lt_of_le (inf s) nan h k = h
not_lt_of_le (inf true) (inf true) h k = k
not_lt_of_le (inf true) (inf false) h k = k
not_lt_of_le (inf false) (inf true) h k = h
not_lt_of_le (inf false) (inf false) h k = k
not_lt_of_le (inf true) (fin t n d) h k = k
not_lt_of_le (inf false) (fin t n d) h k = h
not_lt_of_le (fin s m e) nan h k = h
not_lt_of_le (fin s m e) (inf true) h k = h
not_lt_of_le (fin s m e) (inf false) h k = k
not_lt_of_le (fin s m e) (fin t n d) h k = never s (m * up e) (down e) t (n * up d) (down d) (opened s (m * up e) (down e) t (n * up d) (down d) (down_pos e) (down_pos d) h) k

pub le_of_not_lt : (x y : Float) → T (not (is_nan x)) → T (not (is_nan y)) → T (not (lt y x)) → T (le x y)
unfolding le is_nan
le_of_not_lt nan y a b h = absurd a
le_of_not_lt (inf s) nan a b h = absurd b
le_of_not_lt (inf true) (inf true) a b h = tt
le_of_not_lt (inf true) (inf false) a b h = tt
le_of_not_lt (inf false) (inf true) a b h = absurd h
le_of_not_lt (inf false) (inf false) a b h = tt
le_of_not_lt (inf true) (fin t n d) a b h = tt
le_of_not_lt (inf false) (fin t n d) a b h = absurd h
le_of_not_lt (fin s m e) nan a b h = absurd b
le_of_not_lt (fin s m e) (inf true) a b h = absurd h
le_of_not_lt (fin s m e) (inf false) a b h = tt
le_of_not_lt (fin s m e) (fin t n d) a b h = shut s (m * up e) (down e) t (n * up d) (down d) (other s (m * up e) (down e) t (n * up d) (down d) (down_pos e) (down_pos d) h)

-- ---- what is compared with success is no NaN
pub le_of_lt_float : (x y : Float) → T (lt x y) → T (le x y)
unfolding le
le_of_lt_float x y h = or_l (lt x y) (eq x y) h

pub le_left : (x y : Float) → T (le x y) → T (not (is_nan x))
unfolding le is_nan
le_left nan y h = h
le_left (inf s) y h = tt
le_left (fin s m e) y h = tt

pub le_right : (x y : Float) → T (le x y) → T (not (is_nan y))
unfolding le is_nan
le_right nan y h = absurd h
le_right (inf s) nan h = h
le_right (inf s) (inf t) h = tt
le_right (inf s) (fin t n d) h = tt
le_right (fin s m e) nan h = h
le_right (fin s m e) (inf t) h = tt
le_right (fin s m e) (fin t n d) h = tt

by_test : (b : Bool) → (T (not b) → ⊥) → T b
by_test true f = tt
by_test false f = f tt

pub lt_of_lt_le : (x y z : Float) → T (lt x y) → T (le y z) → T (lt x z)
lt_of_lt_le x y z h k = by_test (lt x z) (λ n.
    not_lt_of_le y x (le_trans_float y z x k (le_of_not_lt z x (le_right y z k) (le_left x y (le_of_lt_float x y h)) n)) h)

pub lt_trans_float : (x y z : Float) → T (lt x y) → T (lt y z) → T (lt x z)
lt_trans_float x y z h k = lt_of_lt_le x y z h (le_of_lt_float y z k)

-- what a limit does not shut out, it does not shut out where it is smaller
pub not_shut : (limit x y : Float) → T (le y x) → T (not (lt limit x)) → T (not (lt limit y))
not_shut limit x y h t = not_T (lt limit y) (λ s. T_not (lt limit x) t (lt_of_lt_le limit y x s h))
