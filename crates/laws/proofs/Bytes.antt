-- Numbers as little-endian bytes: how many there are, and that they are read back. Assumes nothing.
use mathlib.Core.Path.{◌≡◌, refl, ap, ◌∙◌}
use mathlib.Core.Bool.{Bool, true, false, cond}
use mathlib.Core.List.{List, [], ◌∷◌, ◌++◌, append_assoc, append-nil}
use Prim.Native.Nat.{ℕ, zero, suc, ◌+◌, ◌-◌, ◌*◌, ◌/◌, ◌%◌, ◌≤◌, ◌<◌}
use native.Mathlib.Omega.{arith}
use borrow.Author.Tests.{leb-true, ltb-true, ltb-false, lt-ltb, le-ltb}
use lib.Dec.{leb, ltb}
use lib.IntN.{ℤ, pos, negsuc, sub_ℕ}
use mir.Facts.{to_z_pos, to_z-neg}
use mir.Syntax.{w16}
use mir.Val.{of_z, to_z}
use lib.ListN.{length, length-append}
use Rattle.std.proofs.lemmas.Bool.{and_parts}
use Rattle.rules.specs.Forms.{tabulate, each}
use Rattle.rules.specs.Host.{signed16, entry, numbers}
use Rattle.rules.specs.Parcel.{in_bytes, bits, is_short, written}
use Rattle.laws.proofs.Lists.{table_same}

-- ---- how many bytes

pub length-in_bytes : (n value : ℕ) → length (in_bytes n value) ≡ n
unfolding in_bytes
length-in_bytes zero value = refl
length-in_bytes (suc n) value = ap suc (length-in_bytes n (value / 256))

pub length-written : (list : List ℤ) → length (written list) ≡ 2 * length list
unfolding written
length-written [] = refl
length-written (z ∷ rest) =
    length-append (in_bytes 2 (bits z)) (written rest) ∙ rw (length-in_bytes 2 (bits z), length-written rest) (omega arith)

pub written-append : (a b : List ℤ) → written (a ++ b) ≡ written a ++ written b
unfolding written
written-append [] b = refl
written-append (z ∷ rest) b = rw (written-append rest b, append_assoc (in_bytes 2 (bits z)) (written rest) (written b))

-- a number more
pub written_last : (list : List ℤ) (z : ℤ) → written (list ++ z ∷ []) ≡ written list ++ in_bytes 2 (bits z)
unfolding written
written_last list z = written-append list (z ∷ []) ∙ rw (append-nil (in_bytes 2 (bits z)))

-- ---- a number and its two bytes

bits_back : (z : ℤ) → is_short z ≡ true → signed16 (bits z) ≡ z
bits_back (pos n) s = let h = leb-true n 32767 s in rw (lt-ltb n 32768 (omega arith))
bits_back (negsuc n) s =
    let h = leb-true n 32767 (and_parts (leb n 32767) true s).0 in
    let again : 65536 - suc (65535 - n) ≡ n = omega arith in
    rw (le-ltb (65535 - n) 32768 (omega arith), lt-ltb (65535 - n) 65536 (omega arith), again)

-- its bits as the program has them, and the number that the program reads in them
pub bits_is : (z : ℤ) → of_z w16 z ≡ bits z
bits_is (pos n) = refl
bits_is (negsuc n) = omega arith

pub read_is : (n : ℕ) → n < 65536 → to_z w16 n ≡ signed16 n
read_is n small = go (ltb n 32768) (ltb-true n 32768) (ltb-false n 32768)
  where
    go : (b : Bool) → (b ≡ true → n < 32768) → (b ≡ false → 32768 ≤ n) → to_z w16 n ≡ cond b (pos n) (sub_ℕ n 65536)
    go true low high = to_z_pos w16 (low refl)
    go false low high =
        let upper = high refl in
        let same : 65536 - suc (65535 - n) ≡ n = omega arith in
        rw (lt-ltb n 65536 small) (rw same at (to_z-neg w16 (65535 - n) (omega arith)) ∙ ap negsuc (omega arith))

pub bits_small : (z : ℤ) → is_short z ≡ true → bits z < 65536
bits_small (pos n) s = let h = leb-true n 32767 s in omega arith
bits_small (negsuc n) s = omega arith

-- two bytes of a number below 65536
pub joined : (n : ℕ) → n < 65536 → n % 256 + 256 * (n / 256 % 256) ≡ n
joined n small = omega arith

number_back : (z : ℤ) → is_short z ≡ true → signed16 (bits z % 256 + 256 * (bits z / 256 % 256)) ≡ z
number_back z s = rw (joined (bits z) (bits_small z s)) (bits_back z s)

-- ---- a list and its bytes

-- two bytes before the rest are a number before the rest
numbers_after : (low high : ℕ) (rest : List ℕ) → numbers (low ∷ high ∷ rest) ≡ signed16 (low + 256 * high) ∷ numbers rest
unfolding numbers tabulate
numbers_after low high rest =
    let one_more : suc (suc (length rest)) / 2 ≡ suc (length rest / 2) = omega arith in
    rw one_more
    (ap (λ (l : List ℤ). signed16 (low + 256 * high) ∷ l)
    (table_same (length rest / 2) (λ k. entry (low ∷ high ∷ rest) (suc k)) (entry rest) (λ k h. later k)))
  where
    later : (k : ℕ) → entry (low ∷ high ∷ rest) (suc k) ≡ entry rest k
    later k =
        let even : suc k * 2 ≡ suc (suc (k * 2)) = omega arith in
        let odd : suc (suc (k * 2)) + 1 ≡ suc (suc (k * 2 + 1)) = omega arith in
        rw (even, odd)

-- bytes that were written stand for the numbers that were written
pub read_back : (list : List ℤ) → each is_short list ≡ true → numbers (written list) ≡ list
unfolding written in_bytes each numbers tabulate
read_back [] s = refl
read_back (z ∷ rest) s =
    let t = and_parts (is_short z) (each is_short rest) s in
    numbers_after (bits z % 256) (bits z / 256 % 256) (written rest) ∙ rw (number_back z t.0, read_back rest t.1)
