-- What the search makes of three trials, step by step.
use Rattle.std.specs.Prelude.{◌≡◌, Bool, ◌&&◌, Float}
use Rattle.rules.specs.declared.Best.{Best}
use Rattle.rules.specs.declared.Model.{Model}
use Rattle.rules.specs.declared.Trial.{Trial}
use Rattle.rules.specs.declared.Trial.TheVariants.{All, PreviousOwn, OwnNext}
use Rattle.rules.specs.Forms.{Parts}
use Rattle.rules.specs.Model.{error, is_plain}
use Rattle.rules.specs.Window.{count, sum, sums, total, tried, better}
use Rattle.fit_trial.specs.declared.Trials.{Trials}

-- the models of the three trials, at a pixel of its own, 0
pub record Modelled (ps : Parts) (limit : Float) (strict : Bool) (m : Trials) : Type 0 where
  pub all : m.all ≡ (tried ps 0 limit strict All).model
  pub earlier : m.earlier ≡ (tried ps 0 limit strict PreviousOwn).model
  pub later : m.later ≡ (tried ps 0 limit strict OwnNext).model

-- all of them are (1, 0)
abbrev pub all_plain : Trials → Bool
all_plain m = is_plain m.all && is_plain m.earlier && is_plain m.later

-- a trial with this model
unfoldable pub judged_of : Parts → Model → Trial → Best
judged_of ps m trial =
    record { model = m; error = error (sums 0 ps.own) (count ps.own) m; trial = trial; seen = total ps trial (sum 0 5) }

-- the best of three with these models
unfoldable pub best_of : Parts → Trials → Best
best_of ps m = better (better (judged_of ps m.all All) (judged_of ps m.earlier PreviousOwn)) (judged_of ps m.later OwnNext)
