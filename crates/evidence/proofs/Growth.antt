-- A lower figure finds what the higher one found, keeps what it kept and marks what it marked. Assumes nothing.
use mathlib.Core.Path.{◌≡◌, refl, sym, ap, subst}
use mathlib.Core.Logic.{◌⊎◌, inl, inr}
use mathlib.Core.Bool.{Bool, true, false, not, cond, ◌&&◌}
use mathlib.Core.List.{List}
use Prim.Native.Nat.{ℕ, ◌≤◌, ◌/◌, ◌%◌}
use native.Mathlib.Omega.{arith}
use lib.Dec.{T, leb, eqb, leb→le, le→leb}
use lib.ListN.{get_or}
use lib.Ieee as Ieee
use lib.Ieee.{Float}
use lib.Ieee.Fits.{and_i, and_l, and_r}
use Rattle.rules.specs.declared.Best.{Best}
use Rattle.rules.specs.declared.Found.{Found}
use Rattle.rules.specs.declared.Found.TheVariants.{At, Nothing}
use Rattle.rules.specs.Forms.{Parts, any, cells, area}
use Rattle.rules.specs.Literals.{1·7, 4·0}
use Rattle.rules.specs.Float.{◌⊕◌, ◌⊗◌, ◌≺◌, ◌≼◌}
use Rattle.rules.specs.Calls.{FitCall}
use Rattle.rules.specs.Domain.{cover_length}
use Rattle.rules.specs.Model.{Fitted, unfitted, plain, set, is_plain}
use Rattle.rules.specs.Window.{found, pick, window, fitted}
use Rattle.rules.specs.Keeping.{model_of, near, kept, cell_of, marks, cover, kept_models}
use Rattle.rules.specs.Distances.{distances}
use Rattle.rules.specs.Fit.{rough, fit_models, fit_cover}
use Rattle.laws.proofs.Order.{le_trans_float}
use Rattle.laws.proofs.Value.{T_of}
use Rattle.laws.proofs.Points.{set-plain}
use Rattle.laws.proofs.Lists.{tabulate_both, any_mono, how_many_mono}
use Rattle.laws.proofs.Marks.{marks_lower, marks_small}
use Rattle.evidence.specs.Evidence.{FitTwice}

-- ---- the window

-- a second thing is the first, unless the first is nothing
abbrev pub Grown : {A : Type 0} → (nothing first second : A) → Type 0
Grown nothing first second = (first ≡ nothing) ⊎ (second ≡ first)

-- one more test, which only the second may pass
one_test : {A : Type 0} (b t t' : Bool) (a n : A) → (T t → T t') → Grown n (cond (b && t) a n) (cond (b && t') a n)
one_test false t t' a n h = inl refl
one_test true false t' a n h = inl refl
one_test true true true a n h = inr refl
one_test true true false a n h = absurd (h tt)

module _ (figure figure' : Float) (lower : T (figure' ≼ figure)) where
  found_grown : (same : Float) (b : Best) → Grown Nothing (found same figure b) (found same figure' b)
  unfolding found
  found_grown same b =
      one_test ((b.error ≺ 1·7 ⊗ same ⊕ 4·0) && not (is_plain b.model)) (figure ≼ b.seen) (figure' ≼ b.seen) (At b.model b.trial) Nothing
      (le_trans_float figure' figure b.seen lower)

  window_grown : (parts : Parts) (at : ℕ) (limit : Float) → Grown Nothing (window parts at limit figure false) (window parts at limit figure' false)
  unfolding window pick
  window_grown parts at limit = found_grown _ _

fitted_grown : (parts : Parts) (at : ℕ) (f f' : Found) → Grown Nothing f f' → Grown unfitted (fitted parts at f) (fitted parts at f')
unfolding fitted
fitted_grown parts at f f' (inl e) = inl (ap (fitted parts at) e)
fitted_grown parts at f f' (inr e) = inr (ap (fitted parts at) e)

-- so at each place of two tables
abbrev pub Grows : List Fitted → List Fitted → Type 0
Grows r r' = (k : ℕ) → Grown unfitted (get_or r k unfitted) (get_or r' k unfitted)

rough_grows : (first second : FitCall) → FitTwice first second → Grows (rough first) (rough second)
unfolding rough
rough_grows first second t k =
    simp (t.sums, t.size, t.ratio, t.limit, t.strict.0, t.strict.1)
    (tabulate_both (Grown unfitted) (area first.size) _ _ unfitted unfitted k
    (λ below. fitted_grown first.parts _ _ _ (window_grown first.evidence second.evidence (T_of (second.evidence ≼ first.evidence) t.evidence) first.parts k _))
    (inl refl))

-- ---- keeping

plain-plain : is_plain plain ≡ true
unfolding is_plain Ieee.eq Ieee.of_bits
plain-plain = refl

set_grown : (f f' : Fitted) → Grown unfitted f f' → T (set f.model) → T (set f'.model)
set_grown f f' (inl e) t = absurd (rw (e, set-plain) at t)
set_grown f f' (inr e) t = rw e t

-- whether a pixel is kept, by its rough model and how many are set around it
abbrev keeps : Fitted → ℕ → Bool
keeps f n = cond (set f.model) (leb 3 n) (not (is_plain f.model))

keeps_grown : (f f' : Fitted) (n n' : ℕ) → Grown unfitted f f' → n ≤ n' → T (keeps f n) → (f' ≡ f) × T (keeps f' n')
keeps_grown f f' n n' (inl e) h t = absurd (rw (e, set-plain, plain-plain) at t)
keeps_grown f f' n n' (inr e) h t = (e, rw e (go (set f.model) (not (is_plain f.model)) t))
  where
    go : (b c : Bool) → T (cond b (leb 3 n) c) → T (cond b (leb 3 n') c)
    go true c t = le→leb 3 n' (omega (arith, leb→le 3 n t))
    go false c t = t

module _ (r r' : List Fitted) (g : Grows r r') (size : ℕ × ℕ) where
  near_grows : (x y : ℕ) → near r size x y ≤ near r' size x y
  unfolding near
  near_grows x y = how_many_mono 9 _ _ (λ side. set_grown _ _ (g _))

  kept_grows : (k : ℕ) → T (kept r size k) → (get_or r' k unfitted ≡ get_or r k unfitted) × T (kept r' size k)
  unfolding kept
  kept_grows k = keeps_grown _ _ _ _ (g k) (near_grows (k % size.0) (k / size.0))

  models_grow : Grows (kept_models r size) (kept_models r' size)
  unfolding kept_models
  models_grow k =
      tabulate_both (Grown unfitted) (area size) _ _ unfitted unfitted k (λ below. go (kept r size k) (kept r' size k) _ _ (kept_grows k)) (inl refl)
    where
      go : (b b' : Bool) (f f' : Fitted) → (T b → (f' ≡ f) × T b') → Grown unfitted (cond b f unfitted) (cond b' f' unfitted)
      go false b' f f' h = inl refl
      go true true f f' h = inr (h tt).0
      go true false f f' h = absurd (h tt).1

  marks_grow : (cell k : ℕ) → T (marks r size cell k) → T (marks r' size cell k)
  unfolding marks
  marks_grow cell k t =
      let here = eqb (cell_of size.0 k) cell in
      let both = and_l (set (model_of r k) && kept r size k) here t in
      and_i (set (model_of r' k) && kept r' size k) here
      (and_i (set (model_of r' k)) (kept r' size k)
      (set_grown _ _ (g k) (and_l (set (model_of r k)) (kept r size k) both))
      (kept_grows k (and_r (set (model_of r k)) (kept r size k) both)).1)
      (and_r (set (model_of r k) && kept r size k) here t)

-- whether a pixel marks this cell
abbrev marked : List Fitted → (size : ℕ × ℕ) → (cell : ℕ) → Bool
marked r size cell = any (area size) (marks r size cell)

-- ---- what fit hands to assembly

module _ (first second : FitCall) (t : FitTwice first second) where
  pub models_fit : Grows (fit_models first) (fit_models second)
  unfolding fit_models
  models_fit =
      subst (λ (s : ℕ × ℕ). Grows (fit_models first) (kept_models (rough second) s)) (sym t.size)
      (models_grow (rough first) (rough second) (rough_grows first second t) first.size)

  pub cover_fit : (k : ℕ) → get_or (fit_cover second) k 0 ≤ get_or (fit_cover first) k 0
  unfolding fit_cover cover
  cover_fit k =
      let size = first.size in
      subst (λ (s : ℕ × ℕ). get_or (distances (cover (rough second) s) (cells s.0)) k 0 ≤ get_or (fit_cover first) k 0) (sym t.size)
      (marks_lower (cover_length size) (marked (rough first) size) (marked (rough second) size)
      (λ cell. any_mono (area size) (marks (rough first) size cell) (marks (rough second) size cell) (marks_grow (rough first) (rough second) (rough_grows first second t) size cell))
      (cells size.0) k)

pub cover_fits : (c : FitCall) (k : ℕ) → get_or (fit_cover c) k 0 ≤ 255
unfolding fit_cover cover
cover_fits c = marks_small (cover_length c.size) (marked (rough c) c.size) (cells c.size.0)
