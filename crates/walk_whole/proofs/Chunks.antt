-- Chunks of a clip that grows, and the parts of them. Assumes nothing.
use mathlib.Core.Path.{◌≡◌, refl, ◌∙◌}
use mathlib.Core.List.{List, [], ◌∷◌, ◌++◌}
use Prim.Native.Nat.{ℕ, ◌+◌, ◌-◌, ◌*◌, ◌≤◌, ◌<◌}
use native.Mathlib.Omega.{arith}
use lib.ListN.{length, drop, length-append, length-take, length-drop}
use lib.Seq.{take_all, take-append-le, drop-append-le}
use Rattle.rules.specs.Forms.{Pair, Part, Slot, absent, part}
use Rattle.rules.specs.Stats.{added, stats_sums}
use Rattle.rules.specs.Walk.{pairs_in}
use Rattle.calls.specs.Lent.{stats_call}
use Rattle.walk_whole.specs.Whole.{chunk, summed, whole_part}

-- a list without an entry
none : {A : Type 0} (l : List A) → length l ≡ 0 → l ≡ []
none [] e = refl
none (x ∷ xs) e = absurd (omega (arith, e))

-- a chunk that is complete stays as it is
pub chunk_before : (xs ys : List Pair) (c : ℕ) → 12 * (c + 1) ≤ length xs → chunk (xs ++ ys) c ≡ chunk xs c
chunk_before xs ys c h =
    rw (drop-append-le (12 * c) xs ys (omega (arith, h)))
    (take-append-le 12 (drop (12 * c) xs) ys (rw (length-drop (12 * c) xs) (omega (arith, h))))

-- one that has yet room takes the pair behind the last
pub chunk_last : (xs : List Pair) (p : Pair) (c : ℕ) → 12 * c ≤ length xs → length xs < 12 * (c + 1) → chunk (xs ++ p ∷ []) c ≡ chunk xs c ++ p ∷ []
chunk_last xs p c h k =
    let zs = drop (12 * c) xs in
    let l = length-drop (12 * c) xs in
    rw (drop-append-le (12 * c) xs (p ∷ []) h, take_all 12 zs (omega (arith, l, h, k)))
    (take_all 12 (zs ++ p ∷ []) (rw (length-append zs (p ∷ [])) (omega (arith, l, h, k))))

-- a chunk that is not begun has none
pub chunk_none : (xs : List Pair) (c : ℕ) → length xs ≤ 12 * c → chunk xs c ≡ []
chunk_none xs c h = rw (none (drop (12 * c) xs) (length-drop (12 * c) xs ∙ gone (length xs) (12 * c) h))
  where
    gone : (m n : ℕ) → m ≤ n → m - n ≡ 0
    gone m n h = omega arith

-- how many pairs a chunk has
pub chunk_long : (xs : List Pair) (c : ℕ) → length (chunk xs c) ≡ pairs_in (length xs) c
chunk_long xs c = length-take 12 (drop (12 * c) xs) ∙ rw (length-drop (12 * c) xs)

module _ (size : ℕ × ℕ) (ratio : ℕ) where
  -- a pair more is added last
  pub summed_last : (xs : List Pair) (p : Pair) (sums : Part) → summed size ratio (xs ++ p ∷ []) sums ≡ stats_sums (stats_call (summed size ratio xs sums) size.0 size.1 ratio p)
  unfolding summed
  summed_last [] p sums = refl
  summed_last (x ∷ xs) p sums = summed_last xs p _

  -- whatever stood in the sums of no pair is not looked at
  pub afresh : (s : Slot) (p : Pair) → stats_sums (stats_call (part s 0) size.0 size.1 ratio p) ≡ stats_sums (stats_call absent size.0 size.1 ratio p)
  unfolding stats_sums added
  afresh s p = refl

  -- a part with a pair more
  pub part_last : (xs : List Pair) (p : Pair) (c : ℕ) → 12 * c ≤ length xs → length xs < 12 * (c + 1)
      → whole_part size ratio (xs ++ p ∷ []) c ≡ stats_sums (stats_call (whole_part size ratio xs c) size.0 size.1 ratio p)
  unfolding whole_part
  part_last xs p c h k = rw (chunk_last xs p c h k) (summed_last (chunk xs c) p absent)

  -- and one that stays
  pub part_before : (xs ys : List Pair) (c : ℕ) → 12 * (c + 1) ≤ length xs → whole_part size ratio (xs ++ ys) c ≡ whole_part size ratio xs c
  unfolding whole_part
  part_before xs ys c h = rw (chunk_before xs ys c h)

  pub part_none : (xs : List Pair) (c : ℕ) → length xs ≤ 12 * c → whole_part size ratio xs c ≡ absent
  unfolding whole_part summed
  part_none xs c h = rw (chunk_none xs c h)
