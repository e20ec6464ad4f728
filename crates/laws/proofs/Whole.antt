-- Whole numbers up to 2 ^ prec as floats: their order is the numbers', and a sum and a product of them is the float of
-- the sum and of the product. Assumes nothing.
use mathlib.Core.Path.{◌≡◌, refl, sym, ap, ◌∙◌, subst}
use Prim.Native.Nat.{ℕ, zero, suc, ◌+◌, ◌-◌, ◌*◌, ◌/◌, ◌^◌, ◌≤◌, ◌<◌, min}
use native.Mathlib.Nat.{le_trans, le_of_eq, mul_comm, mul_assoc, mul-one, mul-pos, mul-mul-mul_comm, mul-lt-mul_of_pos_right, lt_of_mul-lt-mul_right, add-mul, zero-lt-suc, mul-le-mul_right, div-le_of_le-mul, lt_irrefl, mul-sub}
use native.Mathlib.Omega.{arith}
use mathlib.Core.Bool.{Bool, true, false, not, cond, ◌&&◌}
use mathlib.Core.Logic.{◌↔◌}
use lib.IntN.{ℤ, pos, negsuc, neg_ℤ, nat_abs, ◌+ℤ◌, ◌-ℤ◌, ◌*ℤ◌}
use lib.Signed.{le_z}
use lib.Dec.{T, ltb, leb, lt→ltb, ltb→lt, nltb→le, leb→le, le→leb, lit≤}
use lib.Ieee.{Float, nan, inf, fin, Format, binary32, prec, up, down, round, sum, add, sub, mul, neg, unlike, le, of_int, of_bits, to_unsigned}
use lib.Ieee.Fits.{down_pos}
use lib.Ieee.Exact.{HasValue}
use lib.Ieee.Scale.{round_same}
use lib.Ieee.Order.{transfer}
use lib.Ieee.Back.{round_whole}
use Rattle.rules.specs.Literals.{0·0, 8·0}
use Rattle.rules.specs.Float.{◌⊖◌, ◌⊗◌, float, signed}
use Rattle.laws.proofs.Signed.{neg_size}
use Rattle.laws.proofs.Value.{by_value}
use Rattle.laws.proofs.Order.{Below, opened, shut, none, zero_of}

-- ---- the order by any fractions that the two floats equal
move : (s : Bool) (x de : ℕ) (t : Bool) (y dd a c b c' : ℕ) → 0 < c → 0 < c' → x * c ≡ a * de → y * c' ≡ b * dd → Below s a c t b c' → Below s x de t y dd
move false x de false y dd a c b c' C C' p q h = transfer x y de dd a b c c' C C' p q h
move false x de true y dd a c b c' C C' p q h = (zero_of x c C (p ∙ none a de h.0), zero_of y c' C' (q ∙ none b dd h.1))
move true x de false y dd a c b c' C C' p q h = tt
move true x de true y dd a c b c' C C' p q h = transfer y x dd de b a c' c C' C q p h

pub le_by_values : (x y : Float) (s : Bool) (a c : ℕ) (t : Bool) (b c' : ℕ) → 0 < c → 0 < c' → HasValue x s a c → HasValue y t b c' → Below s a c t b c' → T (le x y)
unfolding le
le_by_values x y s a c t b c' C C' p q h =
    by_value (λ x. T (le x y)) x s a c p (λ m e i. by_value (λ y. T (le (fin s m e) y)) y t b c' q (λ n d j.
    shut s (m * up e) (down e) t (n * up d) (down d) (move s (m * up e) (down e) t (n * up d) (down d) a c b c' C C' i j h)))

pub values_by_le : (x y : Float) (s : Bool) (a c : ℕ) (t : Bool) (b c' : ℕ) → HasValue x s a c → HasValue y t b c' → 0 < c → 0 < c' → T (le x y) → Below s a c t b c'
unfolding le
values_by_le x y s a c t b c' p q C C' =
    by_value (λ x. T (le x y) → Below s a c t b c') x s a c p (λ m e i. by_value (λ y. T (le (fin s m e) y) → Below s a c t b c') y t b c' q (λ n d j h.
    move s a c t b c' (m * up e) (down e) (n * up d) (down d) (down_pos e) (down_pos d) (sym i) (sym j)
    (opened s (m * up e) (down e) t (n * up d) (down d) (down_pos e) (down_pos d) h)))

-- ---- whole numbers
pub zero_is : float 0 ≡ 0·0
unfolding of_bits of_int
zero_is = refl

abbrev pub minus? : ℤ → Bool
minus? (pos n) = false
minus? (negsuc n) = true

pub int_value : (f : Format) (z : ℤ) → nat_abs z ≤ 2 ^ prec f → HasValue (of_int f z) (minus? z) (nat_abs z) 1
unfolding of_int
int_value f (pos n) h = round_whole f false n h
int_value f (negsuc n) h = round_whole f true (suc n) h

below_of : (a b : ℤ) → T (le_z a b) → Below (minus? a) (nat_abs a) 1 (minus? b) (nat_abs b) 1
below_of (pos a) (pos b) t = mul-le-mul_right 1 (leb→le a b t)
below_of (pos a) (negsuc b) t = absurd t
below_of (negsuc a) (pos b) t = tt
below_of (negsuc a) (negsuc b) t = one_more a b (leb→le b a t)
  where
    one_more : (a b : ℕ) → b ≤ a → suc b * 1 ≤ suc a * 1
    one_more a b h = omega arith

of_below : (a b : ℤ) → Below (minus? a) (nat_abs a) 1 (minus? b) (nat_abs b) 1 → T (le_z a b)
of_below (pos a) (pos b) h = le→leb a b (less a b h)
  where
    less : (a b : ℕ) → a * 1 ≤ b * 1 → a ≤ b
    less a b h = omega arith
of_below (pos a) (negsuc b) h = absurd (never b h.1)
  where
    never : (b : ℕ) → suc b ≡ 0 → ⊥
    never b h = omega arith
of_below (negsuc a) (pos b) h = tt
of_below (negsuc a) (negsuc b) h = le→leb b a (less a b h)
  where
    less : (a b : ℕ) → suc b * 1 ≤ suc a * 1 → b ≤ a
    less a b h = omega arith

-- the order of floats is that of the numbers
pub int_le : (f : Format) (a b : ℤ) → nat_abs a ≤ 2 ^ prec f → nat_abs b ≤ 2 ^ prec f → T (le_z a b) → T (le (of_int f a) (of_int f b))
int_le f a b A B t = le_by_values (of_int f a) (of_int f b) (minus? a) (nat_abs a) 1 (minus? b) (nat_abs b) 1 (zero-lt-suc 0) (zero-lt-suc 0) (int_value f a A) (int_value f b B) (below_of a b t)

pub le_int : (f : Format) (a b : ℤ) → nat_abs a ≤ 2 ^ prec f → nat_abs b ≤ 2 ^ prec f → T (le (of_int f a) (of_int f b)) → T (le_z a b)
le_int f a b A B t = of_below a b (values_by_le (of_int f a) (of_int f b) (minus? a) (nat_abs a) 1 (minus? b) (nat_abs b) 1 (int_value f a A) (int_value f b B) (zero-lt-suc 0) (zero-lt-suc 0) t)

-- ---- an index: what is at most n is cut to at most n
pub cut_le : (x : Float) (n : ℕ) → n ≤ 2 ^ 24 → T (le x (of_int binary32 (pos n))) → to_unsigned 64 x ≤ n
unfolding le to_unsigned
cut_le x n N h = go x (of_int binary32 (pos n)) (int_value binary32 (pos n) N) h
  where
    capped : (q w : ℕ) → q ≤ n → min q w ≤ n
    capped q w h = omega arith

    least : 0 ≤ n
    least = omega arith

    at_inf : (y : Float) → HasValue y false n 1 → T (le (inf false) y) → ⊥
    at_inf nan v h = v
    at_inf (inf t) v h = v
    at_inf (fin t m e) v h = h

    go : (x y : Float) → HasValue y false n 1 → T (le x y) → to_unsigned 64 x ≤ n
    go nan y v h = least
    go (inf true) y v h = least
    go (inf false) y v h = absurd (at_inf y v h)
    go (fin true m e) y v h = least
    go (fin false m e) y v h =
        let l : m * up e * 1 ≤ n * down e = values_by_le (fin false m e) y false (m * up e) (down e) false n 1 (refl, refl) v (down_pos e) (zero-lt-suc 0) h in
        capped (m * up e / down e) (2 ^ 64 - 1) (div-le_of_le-mul (down e) (le_trans (le_of_eq (sym (mul-one (m * up e)))) (le_trans l (le_of_eq (mul_comm n (down e))))))

-- two tests, each true where the other is
pub same_test : (x y : Bool) → (T x → T y) → (T y → T x) → x ≡ y
same_test true true f g = refl
same_test true false f g = absurd (f tt)
same_test false true f g = absurd (g tt)
same_test false false f g = refl

-- ---- a sum
ltb_scale : (a b C : ℕ) → 0 < C → ltb (a * C) (b * C) ≡ ltb a b
ltb_scale a b C h = same_test (ltb (a * C) (b * C)) (ltb a b)
    (λ t. lt→ltb a b (lt_of_mul-lt-mul_right C (ltb→lt (a * C) (b * C) t)))
    (λ t. lt→ltb (a * C) (b * C) (mul-lt-mul_of_pos_right (ltb→lt a b t) h))

round_scale : (f : Format) (s : Bool) (k C : ℕ) → 0 < C → round f s (k * C) C ≡ round f s k 1
round_scale f s k C h = round_same f s (k * C) C k 1 h (zero-lt-suc 0) (mul-one (k * C))

sub-mul : (a b C : ℕ) → (a - b) * C ≡ a * C - b * C
sub-mul a b C = mul_comm (a - b) C ∙ mul-sub C a b ∙ ap (λ (z : ℕ). z - C * b) (mul_comm C a) ∙ ap (λ (z : ℕ). a * C - z) (mul_comm C b)

sum_scale : (f : Format) (s : Bool) (a : ℕ) (t : Bool) (b C : ℕ) → 0 < C → sum f s (a * C) t (b * C) C ≡ sum f s a t b 1
unfolding sum
sum_scale f s a t b C h =
    simp (← (add-mul a b C), ← (sub-mul a b C), ← (sub-mul b a C), ltb_scale a b C h, ltb_scale b a C h, round_scale f s (a + b) C h, round_scale f t (b - a) C h, round_scale f (s && ltb b a) (a - b) C h)

pub add_at : (f : Format) (x y : Float) (s : Bool) (a : ℕ) (t : Bool) (b : ℕ) → HasValue x s a 1 → HasValue y t b 1 → add f x y ≡ sum f s a t b 1
unfolding add
add_at f x y s a t b p q =
    by_value (λ x. add f x y ≡ sum f s a t b 1) x s a 1 p (λ m e i. by_value (λ y. add f (fin s m e) y ≡ sum f s a t b 1) y t b 1 q (λ n d j.
    let C = down e * down d in
    let x : m * up e * down d ≡ a * C = ap (λ (z : ℕ). z * down d) (sym (mul-one (m * up e)) ∙ i) ∙ mul_assoc a (down e) (down d) in
    let y : n * up d * down e ≡ b * C = ap (λ (z : ℕ). z * down e) (sym (mul-one (n * up d)) ∙ j) ∙ mul_assoc b (down d) (down e) ∙ ap (λ (z : ℕ). b * z) (mul_comm (down d) (down e)) in
    ap (λ (z : ℕ). sum f s z t (n * up d * down e) C) x
    ∙ ap (λ (z : ℕ). sum f s (a * C) t z C) y
    ∙ sum_scale f s a t b C (mul-pos (down_pos e) (down_pos d))))

pub sum_int : (f : Format) (x y : ℤ) → sum f (minus? x) (nat_abs x) (minus? y) (nat_abs y) 1 ≡ of_int f (x +ℤ y)
unfolding sum of_int
sum_int f (pos a) (pos b) = refl
sum_int f (negsuc a) (negsuc b) = ap (λ (k : ℕ). round f true k 1) (two a b)
  where
    two : (a b : ℕ) → suc a + suc b ≡ suc (suc (a + b))
    two a b = omega arith
sum_int f (pos a) (negsuc b) = go (ltb a (suc b)) (ltb→lt a (suc b))
  where
    go : (u : Bool) → (T u → a < suc b) → cond u (round f true (suc b - a) 1) (round f false (a - suc b) 1) ≡ of_int f (cond u (negsuc (suc b - suc a)) (pos (a - suc b)))
    go true h = ap (λ (k : ℕ). round f true k 1) (one a b (h tt))
      where
        one : (a b : ℕ) → a < suc b → suc b - a ≡ suc (suc b - suc a)
        one a b h = omega arith
    go false h = refl
sum_int f (negsuc a) (pos b) = go (ltb (suc a) b) (ltb b (suc a)) (ltb→lt (suc a) b) (nltb→le (suc a) b) (ltb→lt b (suc a)) (nltb→le b (suc a))
  where
    go : (u v : Bool) → (T u → suc a < b) → (T (not u) → b ≤ suc a) → (T v → b < suc a) → (T (not v) → suc a ≤ b)
        → cond u (round f false (b - suc a) 1) (round f v (suc a - b) 1) ≡ of_int f (cond v (negsuc (suc a - suc b)) (pos (b - suc a)))
    go true true h k l m = absurd (never a b (h tt) (l tt))
      where
        never : (a b : ℕ) → suc a < b → b < suc a → ⊥
        never a b h k = omega arith
    go true false h k l m = refl
    go false true h k l m = ap (λ (z : ℕ). round f true z 1) (one a b (l tt))
      where
        one : (a b : ℕ) → b < suc a → suc a - b ≡ suc (suc a - suc b)
        one a b h = omega arith
    go false false h k l m = ap (λ (z : ℕ). round f false z 1) (both a b (k tt) (m tt))
      where
        both : (a b : ℕ) → b ≤ suc a → suc a ≤ b → suc a - b ≡ b - suc a
        both a b h k = omega arith

-- the sum of two whole numbers, as floats
pub add_int : (f : Format) (x y : ℤ) → nat_abs x ≤ 2 ^ prec f → nat_abs y ≤ 2 ^ prec f → add f (of_int f x) (of_int f y) ≡ of_int f (x +ℤ y)
add_int f x y X Y = add_at f (of_int f x) (of_int f y) (minus? x) (nat_abs x) (minus? y) (nat_abs y) (int_value f x X) (int_value f y Y) ∙ sum_int f x y

-- ---- a product
mul_at : (f : Format) (x y : Float) (s : Bool) (a : ℕ) (t : Bool) (b : ℕ) → HasValue x s a 1 → HasValue y t b 1 → mul f x y ≡ round f (unlike s t) (a * b) 1
unfolding mul
mul_at f x y s a t b p q =
    by_value (λ x. mul f x y ≡ round f (unlike s t) (a * b) 1) x s a 1 p (λ m e i. by_value (λ y. mul f (fin s m e) y ≡ round f (unlike s t) (a * b) 1) y t b 1 q (λ n d j.
    round_same f (unlike s t) (m * up e * (n * up d)) (down e * down d) (a * b) 1 (mul-pos (down_pos e) (down_pos d)) (zero-lt-suc 0)
    (mul-one (m * up e * (n * up d))
    ∙ ap (λ (z : ℕ). z * (n * up d)) (sym (mul-one (m * up e)) ∙ i)
    ∙ ap (λ (z : ℕ). a * down e * z) (sym (mul-one (n * up d)) ∙ j)
    ∙ mul-mul-mul_comm a (down e) b (down d))))

-- a whole number by one above 0
pub mul_int : (f : Format) (x : ℤ) (b : ℕ) → 0 < b → nat_abs x ≤ 2 ^ prec f → b ≤ 2 ^ prec f → mul f (of_int f x) (of_int f (pos b)) ≡ of_int f (x *ℤ pos b)
unfolding of_int
mul_int f (pos a) b P X Y = mul_at f (of_int f (pos a)) (of_int f (pos b)) false a false b (int_value f (pos a) X) (int_value f (pos b) Y)
mul_int f (negsuc a) b P X Y = mul_at f (of_int f (negsuc a)) (of_int f (pos b)) true (suc a) false b (int_value f (negsuc a) X) (int_value f (pos b) Y) ∙ down_to (suc a * b) (mul-pos (zero-lt-suc a) P)
  where
    down_to : (k : ℕ) → 0 < k → round f true k 1 ≡ of_int f (neg_ℤ (pos k))
    down_to zero h = absurd (lt_irrefl 0 h)
    down_to (suc k) h = refl

-- ---- the gap of a stored distance d: d * 8 - 8, in floats
abbrev pub gap : ℤ → Float
gap d = signed d ⊗ 8·0 ⊖ 8·0

abbrev pub gap_z : ℤ → ℤ
gap_z d = d *ℤ pos 8 -ℤ pos 8

times : (d : ℤ) → nat_abs d ≤ 2 ^ 15 → nat_abs (d *ℤ pos 8) ≤ 2 ^ 18
times (pos a) h = omega arith
times (negsuc a) h = le_trans (le_of_eq (neg_size (suc a * 8))) (omega arith)

eight : 8·0 ≡ of_int binary32 (pos 8)
unfolding of_int of_bits
eight = refl

minus_eight : neg 8·0 ≡ of_int binary32 (negsuc 7)
unfolding of_int of_bits neg
minus_eight = refl

pub gap_is : (d : ℤ) → nat_abs d ≤ 2 ^ 15 → gap d ≡ of_int binary32 (gap_z d)
unfolding sub
gap_is d h =
    rw (
      minus_eight,
      eight,
      mul_int binary32 d 8 (zero-lt-suc 7) (le_trans h (lit≤ tt)) (lit≤ tt),
      add_int binary32 (d *ℤ pos 8) (negsuc 7) (le_trans (times d h) (lit≤ tt)) (lit≤ tt),
    )

-- the whole numbers d * 8 - 8: bounded, and in the order of the d
down_is : (a : ℕ) → gap_z (negsuc a) ≡ negsuc (suc (a * 8 + 7 + 7))
down_is a = ap (λ (k : ℕ). neg_ℤ (pos k) -ℤ pos 8) (step a)
  where
    step : (a : ℕ) → suc a * 8 ≡ suc (a * 8 + 7)
    step a = omega arith

gap_bound : (d : ℤ) → nat_abs d ≤ 2 ^ 15 → nat_abs (gap_z d) ≤ 2 ^ 24
gap_bound (negsuc a) h = subst (λ (z : ℤ). nat_abs z ≤ 2 ^ 24) (sym (down_is a)) (far a h)
  where
    far : (a : ℕ) → suc a ≤ 2 ^ 15 → suc (suc (a * 8 + 7 + 7)) ≤ 2 ^ 24
    far a h = omega arith
gap_bound (pos a) h = go (ltb (a * 8) 8)
  where
    go : (u : Bool) → nat_abs (cond u (negsuc (8 - suc (a * 8))) (pos (a * 8 - 8))) ≤ 2 ^ 24
    go true = omega arith
    go false = omega arith

gap_z_mono : (a b : ℤ) → T (le_z a b) → T (le_z (gap_z a) (gap_z b))
gap_z_mono (pos a) (pos b) t = go (ltb (a * 8) 8) (ltb (b * 8) 8) (leb→le a b t) (nltb→le (a * 8) 8) (ltb→lt (b * 8) 8)
  where
    clash : a ≤ b → 8 ≤ a * 8 → b * 8 < 8 → ⊥
    clash h k l = omega arith

    go : (u v : Bool) → a ≤ b → (T (not u) → 8 ≤ a * 8) → (T v → b * 8 < 8) → T (le_z (cond u (negsuc (8 - suc (a * 8))) (pos (a * 8 - 8))) (cond v (negsuc (8 - suc (b * 8))) (pos (b * 8 - 8))))
    go true true h k l = le→leb (8 - suc (b * 8)) (8 - suc (a * 8)) (omega arith)
    go true false h k l = tt
    go false true h k l = absurd (clash h (k tt) (l tt))
    go false false h k l = le→leb (a * 8 - 8) (b * 8 - 8) (omega arith)
gap_z_mono (pos a) (negsuc b) t = absurd t
gap_z_mono (negsuc a) (pos b) t = subst (λ (z : ℤ). T (le_z z (gap_z (pos b)))) (sym (down_is a)) (go (ltb (b * 8) 8))
  where
    go : (v : Bool) → T (le_z (negsuc (suc (a * 8 + 7 + 7))) (cond v (negsuc (8 - suc (b * 8))) (pos (b * 8 - 8))))
    go true = le→leb (8 - suc (b * 8)) (suc (a * 8 + 7 + 7)) (omega arith)
    go false = tt
gap_z_mono (negsuc a) (negsuc b) t =
    subst (λ (z : ℤ). T (le_z z (gap_z (negsuc b)))) (sym (down_is a)) (subst (λ (z : ℤ). T (le_z (negsuc (suc (a * 8 + 7 + 7))) z)) (sym (down_is b))
    (le→leb (suc (b * 8 + 7 + 7)) (suc (a * 8 + 7 + 7)) (more (leb→le b a t))))
  where
    more : b ≤ a → suc (b * 8 + 7 + 7) ≤ suc (a * 8 + 7 + 7)
    more h = omega arith

-- the gap grows with the distance
pub gap_mono : (a b : ℤ) → nat_abs a ≤ 2 ^ 15 → nat_abs b ≤ 2 ^ 15 → T (le_z a b) → T (le (gap a) (gap b))
gap_mono a b A B t =
    subst (λ (z : Float). T (le z (gap b))) (sym (gap_is a A)) (subst (λ (z : Float). T (le (of_int binary32 (gap_z a)) z)) (sym (gap_is b B))
    (int_le binary32 (gap_z a) (gap_z b) (gap_bound a A) (gap_bound b B) (gap_z_mono a b t)))

-- it is at most 0 exactly where the distance is at most 1
nought : 0·0 ≡ of_int binary32 (pos 0)
unfolding of_int of_bits
nought = refl

gap_z_zero : (d : ℤ) → T (le_z (gap_z d) (pos 0)) → T (le_z d (pos 1))
gap_z_zero (negsuc a) t = tt
gap_z_zero (pos a) t = go (ltb (a * 8) 8) (ltb→lt (a * 8) 8) t
  where
    go : (u : Bool) → (T u → a * 8 < 8) → T (le_z (cond u (negsuc (8 - suc (a * 8))) (pos (a * 8 - 8))) (pos 0)) → T (leb a 1)
    go true h t = le→leb a 1 (few (h tt))
      where
        few : a * 8 < 8 → a ≤ 1
        few h = omega arith
    go false h t = le→leb a 1 (few (leb→le (a * 8 - 8) 0 t))
      where
        few : a * 8 - 8 ≤ 0 → a ≤ 1
        few h = omega arith

pub gap_zero : (d : ℤ) → nat_abs d ≤ 2 ^ 15 → T (le (gap d) 0·0) ↔ T (le_z d (pos 1))
gap_zero d D = (
  (λ t. gap_z_zero d (le_int binary32 (gap_z d) (pos 0) (gap_bound d D) (lit≤ tt) (subst (λ (z : Float). T (le z (of_int binary32 (pos 0)))) (gap_is d D) (subst (λ (z : Float). T (le (gap d) z)) nought t)))),
  (λ t. subst (λ (z : Float). T (le (gap d) z)) (sym nought) (subst (λ (z : Float). T (le (gap d) z)) one (gap_mono d (pos 1) D (lit≤ tt) t))),
)
  where
    one : gap (pos 1) ≡ of_int binary32 (pos 0)
    one = gap_is (pos 1) (lit≤ tt)
