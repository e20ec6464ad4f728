-- Where no trial reaches the evidence figure nothing is found. Assumes nothing.
use mathlib.Core.Path.{◌≡◌, refl}
use mathlib.Core.Bool.{Bool, true, false, cond, ◌||◌}
use Prim.Native.Nat.{ℕ}
use lib.Ieee.{Float}
use Rattle.rules.specs.declared.Found.TheVariants.{Nothing}
use Rattle.rules.specs.declared.Trial.{Trial}
use Rattle.rules.specs.declared.Trial.TheVariants.{All, PreviousOwn, OwnNext}
use Rattle.rules.specs.Forms.{Parts}
use Rattle.rules.specs.Float.{◌≼◌}
use Rattle.rules.specs.Window.{sum, total, tried, pick, window, or_else, strictly_set}
use Rattle.fit_trial.proofs.Picked.{pick_hidden}
use Rattle.fit_window.specs.Read.{shown_of}

no_one : (a b c : Bool) → (a || b || c) ≡ false → (a ≡ false) × (b ≡ false) × (c ≡ false)
no_one true b c h = ((cc), (cc), (cc))
no_one false true c h = ((cc), (cc), (cc))
no_one false false c h = (refl, refl, h)

none : (strict near : Bool) → cond strict (or_else Nothing (cond near Nothing Nothing)) Nothing ≡ Nothing
none true true = refl
none true false = refl
none false near = refl

module _ (ps : Parts) (at : ℕ) (limit evidence : Float) (h : shown_of ps at evidence ≡ false) where
  abbrev by : Trial → Bool
  by t = evidence ≼ total ps t (sum at 5)

  three : (by All ≡ false) × (by PreviousOwn ≡ false) × (by OwnNext ≡ false)
  unfolding shown_of
  three = no_one (by All) (by PreviousOwn) (by OwnNext) h

  none_picked : (strict : Bool) → pick ps at limit evidence strict ≡ Nothing
  unfolding tried
  none_picked strict = pick_hidden ps at limit evidence strict each
    where
      each : (t : Trial) → by t ≡ false
      each All = three.0
      each PreviousOwn = three.1
      each OwnNext = three.2

  pub unseen : (strict : Bool) → window ps at limit evidence strict ≡ Nothing
  unfolding window
  unseen strict =
      rw (none_picked true, none_picked false) (none strict (strictly_set at limit ps.previous || strictly_set at limit ps.next))
