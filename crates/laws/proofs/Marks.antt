-- More marks make no distance larger: covers, the transform, the gaps of two layers, and what render writes by them.
-- Assumes nothing.
use mathlib.Core.Path.{◌≡◌, sym, ◌∙◌}
use mathlib.Core.Bool.{Bool, true, false, not, cond}
use mathlib.Core.List.{List}
use Prim.Native.Nat.{ℕ, zero, suc, ◌+◌, ◌/◌, ◌^◌, ◌≤◌, min}
use native.Mathlib.Omega.{arith}
use lib.Dec.{T, ltb}
use lib.IntN.{nat_abs}
use lib.Signed.{le_z}
use lib.ListN.{length, get_or}
use lib.Ieee.{Float}
use lib.Ieee.Fits.{and_i, and_l, and_r}
use Rattle.std.proofs.lemmas.Bool.{cond_both}
use Rattle.rules.specs.Forms.{Layer, tabulate, plane_ratio}
use Rattle.rules.specs.Float.{◌≼◌, ◌≺◌}
use Rattle.rules.specs.Distances.{least, whole, nearest_to, distances}
use Rattle.rules.specs.Reading.{cell, distance, gap}
use Rattle.rules.specs.Render.{margin, rendered}
use Rattle.laws.proofs.Order.{not_shut}
use Rattle.laws.proofs.Whole.{gap_mono}
use Rattle.laws.proofs.Lists.{length-tabulate, tabulate_both}

-- ---- the transform

min_mono : (a b c d : ℕ) → a ≤ b → c ≤ d → min a c ≤ min b d
min_mono a b c d h k = omega arith

pub least_mono : (f g : ℕ → ℕ) (n : ℕ) → ((k : ℕ) → f k ≤ g k) → least f n ≤ least g n
unfolding least
least_mono f g zero h = omega arith
least_mono f g (suc n) h = min_mono (least f n) (least g n) (f n) (g n) (least_mono f g n h) (h n)

pub least_small : (f : ℕ → ℕ) (n : ℕ) → least f n ≤ 255
unfolding least
least_small f zero = omega arith
least_small f (suc n) = under (least f n) (f n) (least_small f n)
  where
    under : (a b : ℕ) → a ≤ 255 → min a b ≤ 255
    under a b h = omega arith

-- the cells grow with the old ones
pub distances_mono : (old old' : List ℕ) (width : ℕ) → length old ≡ length old' → ((k : ℕ) → get_or old k 0 ≤ get_or old' k 0)
    → (k : ℕ) → get_or (distances old width) k 0 ≤ get_or (distances old' width) k 0
unfolding distances nearest_to
distances_mono old old' width same h k =
    rw same
    (tabulate_both (λ a b. a ≤ b) (length old') _ _ 0 0 k
    (λ below. pick (ltb k (whole old' width)) _ _ _ _
    (least_mono _ _ (whole old' width) (λ i. more _ _ _ (h i))) (h k))
    (omega arith))
  where
    more : (a b c : ℕ) → a ≤ b → a + c ≤ b + c
    more a b c l = omega arith

    pick : (t : Bool) (a b a' b' : ℕ) → a ≤ a' → b ≤ b' → cond t a b ≤ cond t a' b'
    pick true a b a' b' l m = l
    pick false a b a' b' l m = m

-- and stay small
pub distances_small : (old : List ℕ) (width : ℕ) → ((k : ℕ) → get_or old k 0 ≤ 255) → (k : ℕ) → get_or (distances old width) k 0 ≤ 255
unfolding distances nearest_to
distances_small old width h k =
    tabulate_both {B = ℕ} (λ a b. a ≤ 255) (length old) _ (λ j. 0) 0 0 k
    (λ below. cond_both (ltb k (whole old width)) _ _ (λ n. n ≤ 255) (λ e. least_small _ (whole old width)) (λ e. h k))
    (omega arith)

-- ---- covers by their marks

-- n cells: a marked one is 0, any other 255
abbrev pub covered : (n : ℕ) → (marks : ℕ → Bool) → List ℕ
covered n marks = tabulate n (λ cell. cond (marks cell) 0 255)

module _ (n : ℕ) (marks marks' : ℕ → Bool) (more : (cell : ℕ) → T (marks cell) → T (marks' cell)) where
  -- with more marks no cell is higher
  covered_lower : (k : ℕ) → get_or (covered n marks') k 0 ≤ get_or (covered n marks) k 0
  covered_lower k = tabulate_both (λ a b. a ≤ b) n _ _ 0 0 k (λ below. go (marks k) (marks' k) (more k)) (omega arith)
    where
      go : (b b' : Bool) → (T b → T b') → cond b' 0 255 ≤ cond b 0 255
      go true true h = omega arith
      go true false h = absurd (h tt)
      go false true h = omega arith
      go false false h = omega arith

  -- and no distance is larger
  pub marks_lower : (width k : ℕ) → get_or (distances (covered n marks') width) k 0 ≤ get_or (distances (covered n marks) width) k 0
  marks_lower width = distances_mono (covered n marks') (covered n marks) width (length-tabulate n _ ∙ sym (length-tabulate n _)) covered_lower

-- a distance is at most 255
pub marks_small : (n : ℕ) (marks : ℕ → Bool) (width k : ℕ) → get_or (distances (covered n marks) width) k 0 ≤ 255
marks_small n marks width =
    distances_small (covered n marks) width
    (λ k. tabulate_both {B = ℕ} (λ a b. a ≤ 255) n _ (λ j. 0) 0 0 k (λ below. cond_both (marks k) 0 255 (λ n. n ≤ 255) (λ e. omega arith) (λ e. omega arith)) (omega arith))

-- ---- gaps

-- where no cell of a second layer is higher, no gap is
pub gap_lower : (l l' : Layer) (plane : ℕ) → plane_ratio l' plane ≡ plane_ratio l plane
    → ((x y : ℕ) → nat_abs (cell l' x y) ≤ 2 ^ 15) → ((x y : ℕ) → nat_abs (cell l x y) ≤ 2 ^ 15) → ((x y : ℕ) → T (le_z (cell l' x y) (cell l x y)))
    → (x y : ℕ) → T (gap l' plane x y ≼ gap l plane x y)
unfolding gap distance
gap_lower l l' plane same small' small lower x y =
    let side = 8 / plane_ratio l plane in
    rw same (gap_mono (cell l' (x / side) (y / side)) (cell l (x / side) (y / side)) (small' _ _) (small _ _) (lower _ _))

-- what is rendered is rendered at a smaller gap
pub rendered_still : (most own g g' : Float) → T (g' ≼ g) → T (rendered g most own) → T (rendered g' most own)
unfolding rendered
rendered_still most own g g' h t =
    let a = margin most in
    let b = margin own in
    and_i (not (a ≺ g')) (not (b ≺ g'))
    (not_shut a g g' h (and_l (not (a ≺ g)) (not (b ≺ g)) t))
    (not_shut b g g' h (and_r (not (a ≺ g)) (not (b ≺ g)) t))
