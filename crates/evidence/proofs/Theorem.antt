-- Demand 3, proved. Assumes nothing.
use mathlib.Core.Path.{◌≡◌, refl, sym, ap, subst₂}
use mathlib.Core.Logic.{◌⊎◌, inl, inr, ◌≢◌}
use mathlib.Core.Bool.{Bool, true, ◌||◌, false≢true, or-false}
use mathlib.Core.List.{List}
use Prim.Native.Nat.{ℕ, zero, suc, ◌+◌, ◌*◌, ◌^◌, ◌≤◌, ◌<◌, ◌/◌}
use native.Mathlib.Nat.{le_trans}
use native.Mathlib.Omega.{arith}
use borrow.Author.Tests.{leb-true}
use lib.IntN.{ℤ, pos, negsuc, neg_ℤ, nat_abs}
use lib.Signed.{le_z}
use lib.Dec.{T, le→leb, lit≤}
use lib.ListN.{get_or}
use lib.Ieee.Bits.{is_true}
use Rattle.rules.specs.declared.Gain.{Gain}
use Rattle.rules.specs.declared.Offset.{Offset}
use Rattle.rules.specs.declared.Model.{Model}
use Rattle.rules.specs.declared.Scene.{Scene}
use Rattle.rules.specs.declared.Scene.TheVariants.{Lifted}
use Rattle.rules.specs.Forms.{Plane, Layer, Rule, plane_size, painted, counted, answer, leaves}
use Rattle.rules.specs.Literals.{0·0, 0·2}
use Rattle.rules.specs.Float.{◌≼◌, float, abs, pixel}
use Rattle.rules.specs.Calls.{FitCall}
use Rattle.rules.specs.Refusals.{peel_refusal, unpeel_refusal, render_refusal, fit_refusal}
use Rattle.rules.specs.Model.{Fitted, unfitted}
use Rattle.rules.specs.Fit.{fit_models, fit_cover, fit_leaves}
use Rattle.rules.specs.Reading.{cell, gap, luma_gain, luma_texel, texel, at, sample}
use Rattle.rules.specs.Scene.{value, lift, lifted, under, filled, scene}
use Rattle.rules.specs.Peel.{layered, peel_rule}
use Rattle.rules.specs.Unpeel.{relaid, unpeel_rule}
use Rattle.rules.specs.Render.{own_steps, render_rule}
use Rattle.laws.proofs.Value.{T_of}
use Rattle.laws.proofs.Order.{le_trans_float}
use Rattle.laws.proofs.Raster.{painted_at, counted_mono}
use Rattle.laws.proofs.Points.{model_whole, fifth}
use Rattle.laws.proofs.Accepted.{Over, place, layer_passed}
use Rattle.laws.proofs.Marks.{gap_lower, rendered_still}
use Rattle.evidence.specs.Evidence.{FitTwice, layer_left, pair, no_pair, Later, peel_luma, unpeel_luma, render_plane, Run, run, Accepted, is_large, promised, KeepsRun, Keeps, DemandThree}
use Rattle.evidence.proofs.Growth.{Grown, Grows, models_fit, cover_fit, cover_fits}
use Rattle.evidence.proofs.Layers.{stored_pair, pair_plain, made, pair_is, gain_small, cell_both, texel_of, layered_still}

-- ---- two runs of a call

-- a run, by its table's number, its rule and what it is lent
abbrev ran : ℕ → Rule → (size : ℕ × ℕ) → (output : Plane) → Run
ran number rule size output =
    record {
      rule = rule;
      size = size;
      answer = answer number (counted rule size);
      output = record { bytes = leaves number (painted rule size output) output.bytes; pitch = output.pitch };
    }

-- two accepted runs of rules of which the second writes no less
keeps_run : (l : Layer) (plane : ℕ) (output : Plane) (rule rule' : Rule) (n n' : ℕ) (promise : (x y : ℕ) → Bool)
    → Over l plane output → n ≡ 0 → n' ≡ 0
    → ((x y : ℕ) → x < (plane_size l plane).0 → y < (plane_size l plane).1 → T (rule.writes x y) → T (rule'.writes x y))
    → ((x y : ℕ) → x < (plane_size l plane).0 → y < (plane_size l plane).1 → T (rule.writes x y) → promise x y ≡ true
    → (old : ℕ) → rule'.byte x y old ≡ rule.byte x y old)
    → KeepsRun (ran n rule (plane_size l plane) output) (ran n' rule' (plane_size l plane) output) promise
keeps_run l plane output rule rule' n n' promise o e e' more same =
    record {
      written = λ x y w. record { across = w.across; down = w.down; writes = again x y w.across w.down w.writes };
      count = rw (e, e') (counted_mono rule rule' size more);
      bytes = λ x y w p.
          let inside = place l plane output o x y w.across w.down in
          rw (
            e,
            e',
            painted_at rule' size output o.narrow x y w.across w.down inside,
            painted_at rule size output o.narrow x y w.across w.down inside,
            w.writes,
            again x y w.across w.down w.writes,
          )
          (same x y w.across w.down (T_of _ w.writes) p _);
    }
  where
    size : ℕ × ℕ
    size = plane_size l plane

    again : (x y : ℕ) → x < size.0 → y < size.1 → rule.writes x y ≡ true → rule'.writes x y ≡ true
    again x y across down w = is_true _ (more x y across down (T_of _ w))

-- ---- what a luma pixel shows

-- where the gain is large, the scene is the pixel's own, lifted
scene_at : (l : Layer) (plane : ℕ) (raw : Plane) (x y : ℕ) → x ≤ 4096 → y ≤ 4096 → T (0·2 ≼ abs (texel l plane x y).gain)
    → scene l plane raw (float x) (float y) true ≡ Lifted (lift (sample raw (float x) (float y) (plane_size l plane)) (texel l plane x y))
unfolding scene under lifted filled
scene_at l plane raw x y a b t = rw (model_whole l plane x y a b, is_true (0·2 ≼ abs (texel l plane x y).gain) t)

-- at least n, or at most its negative, by size
by_size : (n : ℕ) (z : ℤ) → (le_z (pos n) z || le_z z (neg_ℤ (pos n))) ≡ true → n ≤ nat_abs z
by_size zero z e = omega arith
by_size (suc n) (pos k) e = leb-true (suc n) k (rw or-false at e)
by_size (suc n) (negsuc k) e = omega (arith, leb-true n k e)

-- ---- two layers

-- models and covers of two layers: the second's models have what the first's have, and no cell of its cover is higher
record Two : Type 0 where
  pub models : List Fitted
  pub models' : List Fitted
  pub cover : List ℕ
  pub cover' : List ℕ
  pub size : ℕ × ℕ
  pub ratio : ℕ
  pub grows : Grows models models'
  pub lower : (k : ℕ) → get_or cover' k 0 ≤ get_or cover k 0
  pub small : (k : ℕ) → get_or cover k 0 ≤ 255

-- so two fits have them
abbrev handed : (first second : FitCall) → FitTwice first second → Two
handed first second t =
    record {
      models = fit_models first;
      models' = fit_models second;
      cover = fit_cover first;
      cover' = fit_cover second;
      size = first.size;
      ratio = first.ratio;
      grows = models_fit first second t;
      lower = cover_fit first second t;
      small = cover_fits first;
    }

module _ (a : Two) where
  abbrev l : Layer
  l = made a.models a.cover a.size a.ratio

  abbrev l' : Layer
  l' = made a.models' a.cover' a.size a.ratio

  pair_grown : (x y : ℕ) → x < a.size.0 → y < a.size.1 → Grown no_pair (pair l x y) (pair l' x y)
  pair_grown x y across down =
      rw (pair_is a.models a.cover a.size a.ratio x y across down, pair_is a.models' a.cover' a.size a.ratio x y across down)
      (go _ _ (a.grows (y * a.size.0 + x)))
    where
      go : (f f' : Fitted) → Grown unfitted f f' → Grown no_pair (stored_pair f.model) (stored_pair f'.model)
      go f f' (inl e) = inl (rw e pair_plain)
      go f f' (inr e) = inr (rw e)

  cell_lower : (x y : ℕ) → T (le_z (cell l' x y) (cell l x y))
  cell_lower =
      cell_both (λ c' c. T (le_z c' c)) tt a.cover' a.cover (λ k. le→leb _ _ (a.lower k)) a.models' a.models a.size a.ratio

  gap_not_larger : (plane x y : ℕ) → T (gap l' plane x y ≼ gap l plane x y)
  gap_not_larger plane =
      gap_lower l l' plane refl (few a.cover' (λ k. omega (arith, a.lower k, a.small k)) a.models') (few a.cover a.small a.models) cell_lower
    where
      few : (v : List ℕ) → ((k : ℕ) → get_or v k 0 ≤ 255) → (m : List Fitted) (x y : ℕ) → nat_abs (cell (made m v a.size a.ratio) x y) ≤ 2 ^ 15
      few v small m = cell_both (λ c d. nat_abs c ≤ 2 ^ 15) (lit≤ tt) v v (λ k. le_trans (small k) (lit≤ tt)) m m a.size a.ratio

  -- a layered luma pixel is layered again, with the same texel
  again : (x y : ℕ) → x < a.size.0 / 1 → y < a.size.1 / 1 → T (layered l 0 x y) → T (layered l' 0 x y) × (texel l' 0 x y ≡ texel l 0 x y)
  unfolding layered texel
  again x y across down t =
      let s = layered_still (gap l 0 x y ≼ 0·0) (gap l' 0 x y ≼ 0·0) (pair l x y) (pair l' x y)
      (le_trans_float (gap l' 0 x y) (gap l 0 x y) 0·0 (gap_not_larger 0 x y)) (pair_grown x y (omega arith) (omega arith)) t in
      (s.0, ap texel_of s.1)

  -- a texel's gain is large where the stored one is
  large : (x y : ℕ) → x < a.size.0 / 1 → y < a.size.1 / 1 → is_large (luma_gain l x y) ≡ true → T (0·2 ≼ abs (texel l 0 x y).gain)
  unfolding texel luma_texel
  large x y across down e =
      let h = by_size _ (luma_gain l x y).0 e in
      fifth (luma_gain l x y).0 (gain_small a.models a.cover a.size a.ratio x y (omega arith) (omega arith)) (omega (arith, h))

  -- and there the scene is the same
  scene_again : (raw : Plane) (x y : ℕ) → x ≤ 4096 → y ≤ 4096 → texel l' 0 x y ≡ texel l 0 x y → T (0·2 ≼ abs (texel l 0 x y).gain)
      → scene l' 0 raw (float x) (float y) true ≡ scene l 0 raw (float x) (float y) true
  scene_again raw x y wide tall e t =
      let t' : T (0·2 ≼ abs (texel l' 0 x y).gain) = rw e t in
      rw (scene_at l 0 raw x y wide tall t, scene_at l' 0 raw x y wide tall t', e)

  -- "Now make one call .. once on each layer"
  later : (call : Later) → Accepted (run call l) → Accepted (run call l') → KeepsRun (run call l) (run call l') (promised call l)
  unfolding peel_rule unpeel_rule render_rule own_steps peel_refusal unpeel_refusal render_refusal
  later (peel_luma output raw) e e' =
      let o = layer_passed l 0 output _ _ e refl in
      keeps_run l 0 output (peel_rule l 0 raw) (peel_rule l' 0 raw) _ _ (promised (peel_luma output raw) l) o e e'
      (λ x y across down t. (again x y across down t).0)
      (λ x y across down t p old.
      ap (λ (s : Scene). pixel (value s))
      (scene_again raw x y (omega (arith, o.wide)) (omega (arith, o.tall)) (again x y across down t).1 (large x y across down p)))
  later (unpeel_luma output frames) e e' =
      keeps_run l 0 output (unpeel_rule l 0 frames) (unpeel_rule l' 0 frames) _ _ (promised (unpeel_luma output frames) l) (layer_passed l 0 output _ _ e refl) e e'
      (λ x y across down t. (again x y across down t).0)
      (λ x y across down t p old.
      ap (λ (u : Model). pixel (relaid u (at frames.first x y) (at frames.second x y) frames.time (float old))) (again x y across down t).1)
  later (render_plane plane output frames motion algo) e e' =
      keeps_run l plane output (render_rule l plane frames motion algo) (render_rule l' plane frames motion algo) _ _
      (promised (render_plane plane output frames motion algo) l) (layer_passed l plane output _ _ e refl) e e'
      (λ x y across down. rendered_still _ _ (gap l plane x y) (gap l' plane x y) (gap_not_larger plane x y))
      (λ x y across down t p. absurd (false≢true p))

  keeps : Keeps l l'
  keeps =
      record {
        pairs = λ x y across down some. other (pair l x y) (pair l' x y) some (pair_grown x y across down);
        distances = λ x y across down. is_true _ (cell_lower x y);
        later = later;
      }
    where
      other : (p p' : Gain × Offset) → p ≢ no_pair → (p ≡ no_pair) ⊎ (p' ≡ p) → p' ≡ p
      other p p' some (inl e) = absurd (some e)
      other p p' some (inr e) = e

-- ---- the demand

layer_is : (c : FitCall) → fit_refusal c ≡ 0 → layer_left c ≡ made (fit_models c) (fit_cover c) c.size c.ratio
unfolding fit_leaves
layer_is c e = rw e

pub demand_three : DemandThree
demand_three first second t ok ok' =
    rw (layer_is first ok, layer_is second ok')
    (subst₂ (λ (s : ℕ × ℕ) (r : ℕ). Keeps (made (fit_models first) (fit_cover first) first.size first.ratio) (made (fit_models second) (fit_cover second) s r))
    (sym t.size) (sym t.ratio)
    (keeps (handed first second t)))
