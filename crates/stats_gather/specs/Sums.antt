-- The sums of one plane: what a run, a row and rows add, as the loops add it.
use Rattle.std.specs.Prelude.{◌≡◌, List, ℕ, ◌+◌, ◌*◌, ◌<◌, get_or, Float}
use Rattle.std.specs.Float.{nan}
use Rattle.rules.specs.Forms.{Plane, Motion, turns}
use Rattle.rules.specs.Motion.{row_taps}
use Rattle.rules.specs.Reading.{at}
use Rattle.rules.specs.Stats.{terms, six_terms, added}
use Rattle.rules.specs.declared.Taps.{Taps}
use Rattle.sample.specs.Points.{plane_by, Within}
use Rattle.motion.specs.declared.Carried.{Carried}
use Rattle.motion.specs.Moves.{motion_of, Holds}
use Rattle.stats_add.specs.Added.{terms_added}
use Rattle.stats_batch.specs.declared.Run.{Run}
use Rattle.stats_gather.specs.declared.Task.{Task}

-- the terms of n pixels, one after the other, from place k on
unfoldable pub run_added : (pairs many : ℕ) → (terms : ℕ → List Float) → (k n : ℕ) → List Float → List Float
run_added pairs many ts k = turns (λ j. terms_added pairs many (ts j) (k + many * j))

-- a pair of planes, with the motion between them
pub record Pass : Type 0 where
  pub first : Plane
  pub second : Plane
  pub motion : Motion
  pub size : ℕ × ℕ
  pub ratio : ℕ

-- the terms of pixel (x, y)
abbrev pub terms_of : Pass → (x y : ℕ) → List Float
terms_of f x y = terms f.first f.second f.motion f.size f.ratio x y

-- the first `width` pixels of row y, from place k on
unfoldable pub row_added : (pairs many : ℕ) → Pass → (y k width : ℕ) → List Float → List Float
row_added pairs many f y = run_added pairs many (λ x. terms_of f x y)

-- the first `height` rows
unfoldable pub rows_added : (pairs many : ℕ) → Pass → (height : ℕ) → List Float → List Float
rows_added pairs many f = turns (λ y. row_added pairs many f y (many * (y * f.size.0)) f.size.0)

-- what a task adds
abbrev pub pass_of : {MANY : ℕ} → Task MANY → Pass
pass_of t =
    record {
      first = plane_by t.first;
      second = plane_by t.second;
      motion = motion_of t.motion.fields t.motion.lattice.grid;
      size = (t.width, t.height);
      ratio = t.motion.lattice.ratio;
    }

-- all of a pair is added
abbrev pub all_added : (many pairs : ℕ) → Pass → List Float → List Float
all_added many pairs f sums = added pairs many sums f.first f.second f.motion f.size f.ratio

-- the terms of a run's pixel by its moved samples
abbrev pub lane_of : {MANY : ℕ} → (pb pa : List Float) → Task MANY → Run → (k : ℕ) → List Float
lane_of pb pa t run k =
    six_terms (get_or pb k nan) (get_or pa k nan) (at (plane_by t.second) (run.x + k) run.y) (at (plane_by t.first) (run.x + k) run.y)

-- the grid's rows around pixel row y, and columns between them to start from
pub record Started (f : Pass) (down : Taps) (start : Carried) (y : ℕ) : Type 0 where
  pub rows : Within (row_taps f.motion f.ratio y) f.motion.grid.1 down
  pub holds : Holds f.motion f.ratio down start
  pub low : y < f.size.1

-- a run is added, and columns are held
pub record RunDone (many pairs : ℕ) (f : Pass) (down : Taps) (run : Run) (place : ℕ) (before after : List Float) (c : Carried) : Type 0 where
  pub sums : after ≡ run_added pairs many (λ j. terms_of f (run.x + j) run.y) place run.n before
  pub holds : Holds f.motion f.ratio down c
