-- A whole call of fit: refused, or run. Assumes nothing.
use mathlib.Core.Path.{◌≡◌, refl, sym}
use mathlib.Core.Bool.{false≢true}
use mathlib.Core.List.{List}
use Prim.Native.Nat.{ℕ, ◌*◌}
use Rattle.std.specs.Prelude.{Ok, Err}
use Rattle.rules.specs.declared.Refusal.{Refusal}
use Rattle.laws.proofs.Answered.{number_some}
use lib.IntN.{ℤ}
use lib.Ieee.{Float}
use Rattle.rules.specs.Calls.{FitCall}
use Rattle.rules.specs.Refusals.{number_of, fit_refusal}
use Rattle.rules.specs.Assembly.{model_slice, assembled}
use Rattle.rules.specs.Fit.{rough, fit_models, fit_cover, fit_leaves}
use Rattle.plane.specs.Slices.{Slices}
use Rattle.fit_refuse.specs.declared.Numbers.{Numbers}
use Rattle.calls.specs.Lent.{fit_of}
use Rattle.assemble_offsets.specs.declared.Sizes.{Sizes}
use Rattle.assemble.specs.Call.{sizes_of}
use Rattle.assemble_store.specs.Entries.{Stored}
use Rattle.fit_refuse.specs.Call.{parts_by, fit_by}
use Rattle.fit.specs.Call.{Modelled, FitAnswered}

module _ (sums : Slices Float) (n : Numbers) (models : List Float) (kept cover : List ℕ) (luma first second : List ℤ) where
  abbrev call : FitCall
  call = fit_by sums n models kept cover (fit_of luma first second)

  abbrev width : ℕ
  width = n.width

  abbrev height : ℕ
  height = n.height

  abbrev ratio : ℕ
  ratio = n.ratio

  pub refused : (r : Refusal) → number_of r ≡ fit_refusal call → FitAnswered call models kept cover luma first second (Err r)
  unfolding fit_leaves
  refused r e =
      record {
        answer = e;
        slices = rw (← e, number_some r) (record { luma_is = refl; first_is = refl; second_is = refl });
        models_stay = λ f. refl;
        kept_stays = λ f. refl;
        cover_stays = λ f. refl;
      }

  -- no row fits, and the models and the cover are made
  module _ (e : fit_refusal call ≡ 0) (g : Sizes) (sized : g ≡ sizes_of width height ratio)
      (models' : List Float) (cover' : List ℕ) (made : Modelled (parts_by sums n.pairs) g n.settings models' cover') where
    models_are : model_slice models' (width * height) ≡ fit_models call
    unfolding fit_models rough
    models_are = rw sized at made.models_are

    cover_is : cover' ≡ fit_cover call
    unfolding fit_cover rough
    cover_is = rw sized at made.cover_is

    pub stored : (luma' first' second' : List ℤ) → Stored (assembled (model_slice models' (g.width * g.height)) cover' (g.width, g.height) g.ratio) luma' first' second'
        → Stored (fit_leaves call) luma' first' second'
    unfolding fit_leaves
    stored luma' first' second' done = rw e (rw (sized, models_are, cover_is) at done)

  -- all is stored: the work slices are free
  pub ran : 0 ≡ fit_refusal call → (models' : List Float) (kept' cover' : List ℕ) (luma' first' second' : List ℤ)
      → Stored (fit_leaves call) luma' first' second' → FitAnswered call models' kept' cover' luma' first' second' (Ok tt)
  ran e models' kept' cover' luma' first' second' done =
      record {
        answer = e;
        slices = done;
        models_stay = λ f. absurd (false≢true (sym f));
        kept_stays = λ f. absurd (false≢true (sym f));
        cover_stays = λ f. absurd (false≢true (sym f));
      }
