-- Laws of `tabulate`, `each`, `turns`, `any` and `how_many`. Assumes nothing.
use mathlib.Core.Path.{◌≡◌, refl, sym, ap, ◌∙◌}
use mathlib.Core.Bool.{Bool, true, false, not, cond, ◌||◌}
use mathlib.Core.List.{List, [], ◌∷◌, ◌++◌}
use Prim.Native.Nat.{ℕ, zero, suc, ◌+◌, ◌*◌, ◌≤◌, ◌<◌}
use native.Mathlib.Nat.{zero-add, add-mul, mul_comm}
use native.Mathlib.Omega.{arith}
use lib.Dec.{T, ltb, nltb→le, ltb→lt}
use lib.ListN.{length, get_or, get_or-eq_default}
use lib.Seq.{ext_get_or}
use lib.Arith.{digits_lt}
use Rattle.std.proofs.lemmas.Bool.{and_parts}
use Rattle.rules.specs.Forms.{turns, tabulate, any, each, how_many}

-- a pixel's place is among those of its plane
pub place_in : {w h x y : ℕ} → y < h → x < w → y * w + x < w * h
place_in {w} {h} above left = omega (arith, digits_lt above left, mul_comm h w)

-- and in the second of two planes
pub second_in : (row rows pitch col : ℕ) → row < rows → col < pitch → (rows + row) * pitch + col < 2 * (pitch * rows)
second_in row rows pitch col below left = omega (arith, place_in below left, mul_comm rows pitch, add-mul rows row pitch)

-- ---- tabulate

pub length-tabulate : {A : Type 0} (n : ℕ) (f : ℕ → A) → length (tabulate n f) ≡ n
unfolding tabulate
length-tabulate zero f = refl
length-tabulate (suc n) f = ap suc (length-tabulate n (λ k. f (suc k)))

pub get_or-tabulate : {A : Type 0} (n : ℕ) (f : ℕ → A) (k : ℕ) (d : A) → k < n → get_or (tabulate n f) k d ≡ f k
unfolding tabulate
get_or-tabulate zero f k d h = absurd (omega arith)
get_or-tabulate (suc n) f zero d h = refl
get_or-tabulate (suc n) f (suc k) d h = get_or-tabulate n (λ j. f (suc j)) k d (omega arith)

pub get_or_beyond : {A : Type 0} (n : ℕ) (f : ℕ → A) (k : ℕ) (d : A) → n ≤ k → get_or (tabulate n f) k d ≡ d
get_or_beyond n f k d h =
    let l : length (tabulate n f) ≤ k = rw (length-tabulate n f) h in
    get_or-eq_default (tabulate n f) d l

-- a list with the entries of a table is the table
pub is_table : {A : Type 0} (n : ℕ) (f : ℕ → A) (list : List A) (d : A) → length list ≡ n → ((k : ℕ) → k < n → get_or list k d ≡ f k) → list ≡ tabulate n f
is_table n f list d long at =
    ext_get_or d list (tabulate n f) (long ∙ sym (length-tabulate n f))
    (λ k h. let below : k < n = omega (arith, h) in at k below ∙ sym (get_or-tabulate n f k d below))

-- tables of the same entries are the same
pub table_same : {A : Type 0} (n : ℕ) (f g : ℕ → A) → ((k : ℕ) → k < n → f k ≡ g k) → tabulate n f ≡ tabulate n g
unfolding tabulate
table_same zero f g same = refl
table_same (suc n) f g same =
    let h = same zero (omega arith) in
    let t = table_same n (λ k. f (suc k)) (λ k. g (suc k)) (λ k b. same (suc k) (omega arith)) in
    rw (h, t)

-- a table in two parts
pub tabulate-add : {A : Type 0} (m n : ℕ) (f : ℕ → A) → tabulate (m + n) f ≡ tabulate m f ++ tabulate n (λ k. f (m + k))
unfolding tabulate
tabulate-add zero n f = rw (zero-add n) (table_same n f (λ k. f (0 + k)) (λ k h. ap f (sym (zero-add k))))
tabulate-add (suc m) n f =
    let e : suc m + n ≡ suc (m + n) = omega arith in
    let rest = table_same n (λ k. f (suc (m + k))) (λ k. f (suc m + k)) (λ k h. let s : suc (m + k) ≡ suc m + k = omega arith in ap f s) in
    rw e (rw (tabulate-add m n (λ k. f (suc k)), rest))

-- and with an entry more at its end
pub tabulate_last : {A : Type 0} (n : ℕ) (f : ℕ → A) → tabulate (n + 1) f ≡ tabulate n f ++ f n ∷ []
unfolding tabulate
tabulate_last n f = tabulate-add n 1 f ∙ let e : n + 0 ≡ n = omega arith in rw e

-- a fact of two tables at place k: it holds of the entries, and of two defaults
pub tabulate_both : {A B : Type 0} (R : A → B → Type 0) (n : ℕ) (f : ℕ → A) (g : ℕ → B) (a : A) (b : B)
    → (k : ℕ) → (k < n → R (f k) (g k)) → R a b → R (get_or (tabulate n f) k a) (get_or (tabulate n g) k b)
tabulate_both R n f g a b k inside default = go (ltb k n) (ltb→lt k n) (nltb→le k n)
  where
    go : (t : Bool) → (T t → k < n) → (T (not t) → n ≤ k) → R (get_or (tabulate n f) k a) (get_or (tabulate n g) k b)
    go true h l = rw (get_or-tabulate n f k a (h tt), get_or-tabulate n g k b (h tt)) (inside (h tt))
    go false h l = rw (get_or_beyond n f k a (l tt), get_or_beyond n g k b (l tt)) default

-- ---- each

-- a test that each entry of a table passes
pub each_table : {A : Type 0} (test : A → Bool) (n : ℕ) (f : ℕ → A) → ((k : ℕ) → k < n → test (f k) ≡ true) → each test (tabulate n f) ≡ true
unfolding each tabulate
each_table test zero f h = refl
each_table test (suc n) f h = rw (h zero (omega arith)) (each_table test n (λ k. f (suc k)) (λ k b. h (suc k) (omega arith)))

-- a test that each entry of a list passes: whatever is read there does, and past it where the default does
pub each_at : {A : Type 0} (test : A → Bool) (list : List A) (d : A) → each test list ≡ true → (k : ℕ) → (length list ≤ k → test d ≡ true) → test (get_or list k d) ≡ true
unfolding each
each_at test [] d e k h = h (omega arith)
each_at test (a ∷ rest) d e zero h = (and_parts (test a) (each test rest) e).0
each_at test (a ∷ rest) d e (suc k) h = each_at test rest d (and_parts (test a) (each test rest) e).1 k (λ p. h (omega arith))

-- ---- turns, any and how_many

-- a fact of two states that each turn keeps
pub turns_both : {S S' : Type 0} (R : S → S' → Type 0) (step : ℕ → S → S) (step' : ℕ → S' → S') (n : ℕ)
    → ((k : ℕ) → k < n → (a : S) (b : S') → R a b → R (step k a) (step' k b)) → (a : S) (b : S') → R a b → R (turns step n a) (turns step' n b)
unfolding turns
turns_both R step step' zero h a b r = r
turns_both R step step' (suc n) h a b r = h n (omega arith) _ _ (turns_both R step step' n (λ k below. h k (omega arith)) a b r)

pub any_mono : (n : ℕ) (p q : ℕ → Bool) → ((k : ℕ) → T (p k) → T (q k)) → T (any n p) → T (any n q)
unfolding any
any_mono n p q h = turns_both (λ a b. T a → T b) _ _ n (λ k below a b r. more a (p k) b (q k) r (h k)) false false (λ t. t)
  where
    more : (a b a' b' : Bool) → (T a → T a') → (T b → T b') → T (a || b) → T (a' || b')
    more a b true b' f g t = tt
    more true b false b' f g t = absurd (f tt)
    more false b false b' f g t = g t

-- one more, if a test is passed
pub one_mono : (a b : Bool) (m n : ℕ) → (T a → T b) → m ≤ n → cond a (m + 1) m ≤ cond b (n + 1) n
one_mono true true m n f h = omega arith
one_mono true false m n f h = absurd (f tt)
one_mono false true m n f h = omega arith
one_mono false false m n f h = h

pub how_many_mono : (n : ℕ) (p q : ℕ → Bool) → ((k : ℕ) → T (p k) → T (q k)) → how_many n p ≤ how_many n q
unfolding how_many
how_many_mono n p q h = turns_both (λ a b. a ≤ b) _ _ n (λ k below a b. one_mono (p k) (q k) a b (h k)) 0 0 (omega arith)
