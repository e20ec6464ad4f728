-- The best trial is one of the three; where none passes a test of `found`, nothing is found.
-- Assumes nothing.
use mathlib.Core.Path.{◌≡◌, refl}
use mathlib.Core.Bool.{Bool, true, false, cond, ◌&&◌}
use Prim.Native.Nat.{ℕ}
use lib.Ieee.{Float}
use Rattle.rules.specs.declared.Best.{Best}
use Rattle.rules.specs.declared.Found.TheVariants.{Nothing}
use Rattle.rules.specs.declared.Trial.{Trial}
use Rattle.rules.specs.declared.Trial.TheVariants.{All, PreviousOwn, OwnNext}
use Rattle.rules.specs.Forms.{Parts}
use Rattle.rules.specs.Literals.{1·15, 2·0}
use Rattle.rules.specs.Float.{◌⊕◌, ◌⊗◌, ◌≺◌, ◌≼◌}
use Rattle.rules.specs.Model.{is_plain}
use Rattle.rules.specs.Window.{tried, better, best, found, pick}
use Rattle.fit_trial.specs.declared.Trials.{Trials}
use Rattle.fit_trial.specs.Judged.{Modelled, all_plain, judged_of, best_of}

either : (P : Best → Type 0) (t : Bool) {x y : Best} → P x → P y → P (cond t y x)
either P true p q = q
either P false p q = p

better_of : (P : Best → Type 0) (x y : Best) → P x → P y → P (better x y)
unfolding better
better_of P x y p q = either P (y.error ⊗ 1·15 ⊕ 2·0 ≺ x.error) p q

best_of_lem : (P : Best → Type 0) (ps : Parts) (at : ℕ) (limit : Float) (strict : Bool)
    → ((t : Trial) → P (tried ps at limit strict t)) → P (best ps at limit strict)
unfolding best
best_of_lem P ps at limit strict h = better_of P _ _ (better_of P _ _ (h All) (h PreviousOwn)) (h OwnNext)

-- ---- no trial reaches the evidence figure

last : (a b : Bool) → (a && b && false) ≡ false
last true true = refl
last true false = refl
last false b = refl

found_hidden : (same evidence : Float) (b : Best) → (evidence ≼ b.seen) ≡ false → found same evidence b ≡ Nothing
unfolding found
found_hidden same evidence b h = rw (h, last)

pub pick_hidden : (ps : Parts) (at : ℕ) (limit evidence : Float) (strict : Bool)
    → ((t : Trial) → (evidence ≼ (tried ps at limit strict t).seen) ≡ false) → pick ps at limit evidence strict ≡ Nothing
unfolding pick
pick_hidden ps at limit evidence strict h =
    found_hidden _ evidence _ (best_of_lem (λ b. (evidence ≼ b.seen) ≡ false) ps at limit strict h)

-- ---- every model is (1, 0)

middle : (a b : Bool) → (a && false && b) ≡ false
middle true b = refl
middle false b = refl

found_plain : (same evidence : Float) (b : Best) → is_plain b.model ≡ true → found same evidence b ≡ Nothing
unfolding found
found_plain same evidence b h = rw (h, middle)

pick_plain : (ps : Parts) (at : ℕ) (limit evidence : Float) (strict : Bool)
    → ((t : Trial) → is_plain (tried ps at limit strict t).model ≡ true) → pick ps at limit evidence strict ≡ Nothing
unfolding pick
pick_plain ps at limit evidence strict h =
    found_plain _ evidence _ (best_of_lem (λ b. is_plain b.model ≡ true) ps at limit strict h)

-- ---- three models that were made side by side

every : (a b c : Bool) → (a && b && c) ≡ true → (a ≡ true) × (b ≡ true) × (c ≡ true)
every true true c h = (refl, refl, h)
every true false c h = ((cc), (cc), (cc))
every false b c h = ((cc), (cc), (cc))

module _ (ps : Parts) (limit : Float) (strict : Bool) (m : Trials) (M : Modelled ps limit strict m) where
  pub none_picked : (evidence : Float) → all_plain m ≡ true → pick ps 0 limit evidence strict ≡ Nothing
  none_picked evidence h = pick_plain ps 0 limit evidence strict each
    where
      three : (is_plain m.all ≡ true) × (is_plain m.earlier ≡ true) × (is_plain m.later ≡ true)
      three = every (is_plain m.all) (is_plain m.earlier) (is_plain m.later) h

      each : (t : Trial) → is_plain (tried ps 0 limit strict t).model ≡ true
      each All = rw M.all at three.0
      each PreviousOwn = rw M.earlier at three.1
      each OwnNext = rw M.later at three.2

  pub best_is : best_of ps m ≡ best ps 0 limit strict
  unfolding best_of judged_of best tried
  best_is = rw (M.all, M.earlier, M.later)
