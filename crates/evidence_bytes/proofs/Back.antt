-- Numbers written as bytes are read back, and what fit leaves is such numbers. Assumes nothing.
use mathlib.Core.Path.{◌≡◌, refl, sym, subst₂}
use mathlib.Core.Bool.{Bool, true, false, cond, ◌&&◌}
use mathlib.Core.List.{List}
use Prim.Native.Nat.{ℕ, ◌+◌, ◌-◌, ◌*◌, ◌/◌, ◌%◌, ◌≤◌, ◌<◌}
use native.Mathlib.Omega.{arith}
use borrow.Author.Tests.{le-leb}
use lib.Dec.{ltb}
use lib.IntN.{ℤ, pos, negsuc}
use lib.Signed.{mag}
use lib.ListN.{get_or}
use lib.Ieee.{Float}
use mir.Syntax.{w16}
use Rattle.rules.specs.Literals.{64·0, 4096·0}
use Rattle.rules.specs.Float.{stored}
use Rattle.rules.specs.Forms.{Fit, tabulate, each, area, shrunk, cells}
use Rattle.rules.specs.Calls.{FitCall}
use Rattle.rules.specs.Host.{numbers}
use Rattle.rules.specs.Refusals.{fit_refusal}
use Rattle.rules.specs.Model.{Fitted}
use Rattle.rules.specs.Keeping.{model_of}
use Rattle.rules.specs.Assembly.{luma_entry, chroma_total, stored_total, cell_entry, assembled}
use Rattle.rules.specs.Reading.{as_left}
use Rattle.rules.specs.Fit.{fit_models, fit_cover, fit_leaves}
use Rattle.laws.proofs.Lists.{each_table}
use Rattle.rules.specs.Parcel.{in_bytes, is_short, written}
use Rattle.laws.proofs.Bytes.{read_back as bytes_back}
use Rattle.laws.proofs.Points.{stored_small, total_small}
use Rattle.laws.proofs.Signed.{fits}
use Rattle.evidence.specs.Evidence.{Keeps}
use Rattle.evidence.proofs.Growth.{cover_fits}
use Rattle.evidence.proofs.Theorem.{demand_three}
use Rattle.evidence_bytes.specs.Written.{ReadBack, through_bytes, LeftShort, DemandThreeBytes, Example}

pub read_back : ReadBack
read_back = bytes_back

-- ---- what fit leaves

small_short : (z : ℤ) → mag z < 32768 → is_short z ≡ true
small_short (pos n) h = le-leb n 32767 (omega arith)
small_short (negsuc n) h = rw (le-leb n 32767 (omega arith))

either_short : (b : Bool) (y z : ℤ) → (b ≡ true → is_short y ≡ true) → is_short z ≡ true → is_short (cond b y z) ≡ true
either_short true y z f h = f refl
either_short false y z f h = h

luma_short : (m : List Fitted) (pixels i : ℕ) → is_short (luma_entry m pixels i) ≡ true
unfolding luma_entry
luma_short m pixels i =
    either_short (ltb i pixels) _ _ (λ e. stored_short (model_of m i).gain 4096·0) (stored_short (model_of m (i - pixels)).offset 64·0)
  where
    stored_short : (value scale : Float) → is_short (stored value scale) ≡ true
    stored_short value scale = small_short (stored value scale) (fits w16 (stored value scale) (omega (arith, stored_small value scale))).sfits

cell_short : (v : List ℕ) (size : ℕ × ℕ) (width j : ℕ) → ((k : ℕ) → get_or v k 0 ≤ 255) → is_short (cell_entry v size width j) ≡ true
unfolding cell_entry
cell_short v size width j small =
    go (ltb (j % width) (cells size.0) && ltb (j / width) (cells size.1)) (get_or v (j / width * cells size.0 + j % width) 0) (small _)
  where
    go : (b : Bool) (n : ℕ) → n ≤ 255 → is_short (pos (cond b n 0)) ≡ true
    go true n h = le-leb n 32767 (omega arith)
    go false n h = refl

module _ (m : List Fitted) (v : List ℕ) (size : ℕ × ℕ) (ratio : ℕ) (small : (k : ℕ) → get_or v k 0 ≤ 255) where
  pixels : ℕ
  pixels = area (shrunk size ratio)

  total : (plane i : ℕ) → ℤ
  total plane i = (stored_total (chroma_total m size.0 ratio plane i)).0

  total_short : (plane k : ℕ) → is_short (total plane k) ≡ true
  unfolding total
  total_short plane k = small_short (total plane k) (total_small (chroma_total m size.0 ratio plane k))

  through : through_bytes (assembled m v size ratio) ≡ assembled m v size ratio
  unfolding assembled pixels total
  through =
      let luma = each_table is_short (2 * area size) (luma_entry m (area size)) (λ k h. luma_short m (area size) k) in
      let first =
      each_table is_short (2 * pixels) (λ i. cond (ltb i pixels) (total 1 i) (pos 0))
      (λ k h. either_short (ltb k pixels) _ _ (λ e. total_short 1 k) refl) in
      let second =
      each_table is_short (2 * pixels) (λ i. cond (ltb i pixels) (total 2 i) (cell_entry v size (size.0 / ratio) (i - pixels)))
      (λ k h. either_short (ltb k pixels) _ _ (λ e. total_short 2 k) (cell_short v size (size.0 / ratio) (k - pixels) small)) in
      rw (read_back _ luma, read_back _ first, read_back _ second)

pub left_short : LeftShort
unfolding fit_leaves
left_short c e = rw e (through (fit_models c) (fit_cover c) c.size c.ratio (cover_fits c))

pub demand_three_bytes : DemandThreeBytes
demand_three_bytes first second t ok ok' =
    subst₂ (λ (f f' : Fit). Keeps (as_left f first.size first.ratio) (as_left f' second.size second.ratio))
    (sym (left_short first ok)) (sym (left_short second ok'))
    (demand_three first second t ok ok')

pub shown : Example
unfolding written in_bytes each numbers tabulate
shown = record { bytes = refl; short = refl; read = refl }
