-- What a layer reads that is assembled of models and a cover: stored pairs, cells and texels. Assumes nothing.
use mathlib.Core.Path.{◌≡◌, refl, sym, subst}
use mathlib.Core.Logic.{inl, inr}
use mathlib.Core.Bool.{Bool, true, false, not, cond, ◌&&◌}
use mathlib.Core.List.{List}
use Prim.Native.Nat.{ℕ, ◌+◌, ◌-◌, ◌*◌, ◌^◌, ◌≤◌, ◌<◌, ◌/◌, ◌%◌}
use native.Mathlib.Nat.{le_trans, add-mul, mul_comm}
use native.Mathlib.Omega.{arith}
use borrow.Author.Tests.{lt-ltb, le-ltb}
use lib.IntN.{ℤ, pos, nat_abs}
use lib.Dec.{T, ltb, lit≤}
use lib.ListN.{get_or}
use lib.Ieee as Ieee
use lib.Ieee.Fits.{and_i, and_l, and_r}
use Rattle.rules.specs.declared.Gain.{Gain}
use Rattle.rules.specs.declared.Offset.{Offset}
use Rattle.rules.specs.declared.Model.{Model}
use Rattle.rules.specs.Forms.{Layer, cells, area}
use Rattle.rules.specs.Literals.{64·0, 4096·0}
use Rattle.rules.specs.Float.{stored, rounded_short, rounded, negative}
use Rattle.rules.specs.Model.{Fitted, plain, is_plain}
use Rattle.rules.specs.Keeping.{model_of}
use Rattle.rules.specs.Assembly.{stored_gain, stored_offset, luma_entry, cell_entry, assembled}
use Rattle.rules.specs.Reading.{as_left, cell, luma_gain, luma_texel}
use Rattle.laws.proofs.Lists.{place_in, get_or-tabulate, tabulate_both}
use Rattle.laws.proofs.Points.{stored_small}
use Rattle.evidence.specs.Evidence.{pair, no_pair}
use Rattle.evidence.proofs.Growth.{Grown}

-- ---- places

-- pixel (x, y) of the second plane
in_second : (x y w h : ℕ) → (h + y) * w + x ≡ w * h + (y * w + x)
in_second x y w h = omega (arith, add-mul h y w, mul_comm w h)

-- ---- stored pairs

gain_entry : (m : List Fitted) (n i : ℕ) → i < n → luma_entry m n i ≡ stored (model_of m i).gain 4096·0
unfolding luma_entry
gain_entry m n i h = rw (lt-ltb i n h)

offset_entry : (m : List Fitted) (n i : ℕ) → luma_entry m n (n + i) ≡ stored (model_of m i).offset 64·0
unfolding luma_entry
offset_entry m n i =
    let back : n + i - n ≡ i = omega arith in
    rw (le-ltb (n + i) n (omega arith), back)

-- what is stored of a model
abbrev pub stored_pair : Model → Gain × Offset
stored_pair m = (stored_gain m.gain, stored_offset m.offset)

pub pair_plain : stored_pair plain ≡ no_pair
unfolding stored rounded_short rounded negative Ieee.mul Ieee.of_bits
pair_plain = refl

-- the layer that is assembled of models and a cover
abbrev pub made : List Fitted → List ℕ → (size : ℕ × ℕ) → (ratio : ℕ) → Layer
made m v size ratio = as_left (assembled m v size ratio) size ratio

module _ (m : List Fitted) (v : List ℕ) (size : ℕ × ℕ) (ratio x y : ℕ) (across : x < size.0) (down : y < size.1) where
  pub pair_is : pair (made m v size ratio) x y ≡ stored_pair (model_of m (y * size.0 + x))
  unfolding assembled
  pair_is =
      let i = y * size.0 + x in
      let n = area size in
      let h : i < n = place_in down across in
      rw (
        in_second x y size.0 size.1,
        get_or-tabulate (2 * n) (luma_entry m n) i (pos 0) (omega arith),
        get_or-tabulate (2 * n) (luma_entry m n) (n + i) (pos 0) (omega arith),
        gain_entry m n i h,
        offset_entry m n i,
      )

  pub gain_small : nat_abs (luma_gain (made m v size ratio) x y).0 ≤ 2 ^ 15
  gain_small = subst (λ (p : Gain × Offset). nat_abs p.0.0 ≤ 2 ^ 15) (sym pair_is) (le_trans (stored_small _ 4096·0) (lit≤ tt))

-- ---- cells

-- a fact of the cells of two layers, by the same of their covers
module _ (R : ℤ → ℤ → Type 0) (none : R (pos 0) (pos 0)) (v v' : List ℕ) (each : (k : ℕ) → R (pos (get_or v k 0)) (pos (get_or v' k 0))) where
  entry_both : (size : ℕ × ℕ) (across j : ℕ) → R (cell_entry v size across j) (cell_entry v' size across j)
  unfolding cell_entry
  entry_both size across j = go (ltb (j % across) (cells size.0) && ltb (j / across) (cells size.1)) _ _ (each _)
    where
      go : (b : Bool) (n n' : ℕ) → R (pos n) (pos n') → R (pos (cond b n 0)) (pos (cond b n' 0))
      go true n n' r = r
      go false n n' r = none

  pub cell_both : (m m' : List Fitted) (size : ℕ × ℕ) (ratio x y : ℕ) → R (cell (made m v size ratio) x y) (cell (made m' v' size ratio) x y)
  unfolding assembled
  cell_both m m' size ratio x y =
      let w = size.0 / ratio in
      let h = size.1 / ratio in
      let k = (h + y) * w + x in
      let past : w * h ≤ k = omega (arith, in_second x y w h) in
      tabulate_both R (2 * (w * h)) _ _ (pos 0) (pos 0) k (λ below. rw (le-ltb k (w * h) past) (entry_both size w _)) none

-- ---- texels

-- a luma texel, by its stored pair
abbrev pub texel_of : Gain × Offset → Model
texel_of p = luma_texel p.0 p.1

texel_plain : is_plain (texel_of no_pair) ≡ true
unfolding luma_texel is_plain Ieee.eq Ieee.div Ieee.of_int Ieee.of_bits
texel_plain = refl

-- a pixel that passes a test and has a texel other than (1, 0), and passes the second test too where it passes the
-- first
pub layered_still : (b b' : Bool) (p p' : Gain × Offset) → (T b → T b') → Grown no_pair p p' → T (b && not (is_plain (texel_of p)))
    → T (b' && not (is_plain (texel_of p'))) × (p' ≡ p)
layered_still b b' p p' f (inl e) t = absurd (rw (e, texel_plain) at (and_r b (not (is_plain (texel_of p))) t))
layered_still b b' p p' f (inr e) t =
    (and_i b' (not (is_plain (texel_of p'))) (f (and_l b (not (is_plain (texel_of p))) t)) (rw e (and_r b (not (is_plain (texel_of p))) t)), e)
