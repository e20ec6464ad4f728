-- The samples of the parts and of the trials, by the pairs of the parts, and the six totals of a trial.
use Rattle.std.specs.Prelude.{◌≡◌, List, [], ℕ, Float}
use Rattle.rules.specs.declared.Trial.{Trial}
use Rattle.rules.specs.declared.Trial.TheVariants.{All, PreviousOwn, OwnNext}
use Rattle.rules.specs.Forms.{Part, Parts}
use Rattle.rules.specs.Window.{count, sum, total}
use Rattle.rules.specs.declared.Sums.{Sums}
use Rattle.calls.specs.Lent.{part_of, parts_of}

-- a part with these luma sums
abbrev pub luma_part : List Float → (pairs : ℕ) → Part
luma_part luma pairs = part_of luma [] [] pairs

-- three parts with these luma sums, and so many pairs
abbrev pub parts_by : (previous own next : List Float) → (before here after : ℕ) → Parts
parts_by previous own next before here after = parts_of (luma_part previous before) (luma_part own here) (luma_part next after)

-- the samples of a trial of parts with so many pairs
abbrev pub samples_of : (previous own next : ℕ) → Trial → Float
samples_of previous own next trial = total (parts_by [] [] [] previous own next) trial count

-- six totals
abbrev pub totals_of : Parts → Trial → (at : ℕ) → Sums
totals_of ps trial at =
    record {
      p = total ps trial (sum at 0);
      i = total ps trial (sum at 1);
      pp = total ps trial (sum at 2);
      pi = total ps trial (sum at 3);
      ii = total ps trial (sum at 4);
      apart = total ps trial (sum at 5);
    }

-- these floats are the samples of each part and of each trial
pub record Counted (previous own next : ℕ) (before here after all earlier later : Float) : Type 0 where
  pub before_is : before ≡ count (luma_part [] previous)
  pub here_is : here ≡ count (luma_part [] own)
  pub after_is : after ≡ count (luma_part [] next)
  pub all_is : all ≡ samples_of previous own next All
  pub earlier_is : earlier ≡ samples_of previous own next PreviousOwn
  pub later_is : later ≡ samples_of previous own next OwnNext
