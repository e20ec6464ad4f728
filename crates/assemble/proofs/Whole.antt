-- A whole call of assemble: refused, or run. Assumes nothing.
use mathlib.Core.Path.{◌≡◌, refl, sym}
use Rattle.std.specs.Prelude.{Ok, Err}
use Rattle.rules.specs.declared.Refusal.{Refusal}
use Rattle.laws.proofs.Answered.{number_some}
use mathlib.Core.List.{List}
use Prim.Native.Nat.{ℕ, ◌*◌}
use borrow.Author.Tests.{eqb-true}
use lib.IntN.{ℤ}
use lib.ListN.{length}
use lib.Ieee.{Float}
use Rattle.rules.specs.Calls.{AssembleCall}
use Rattle.rules.specs.Domain.{fit_length, fit_chroma_length, models_length, cover_length}
use Rattle.rules.specs.Refusals.{number_of, assemble_refusal}
use Rattle.rules.specs.Assembly.{model_slice, assembled}
use Rattle.assemble_store.specs.Entries.{Source, Room, Stored}
use Rattle.laws.proofs.Accepted.{row_right, exact_in}
use Rattle.calls.specs.Lent.{fit_of, assemble_call}
use Rattle.assemble.specs.Call.{sizes_of, AssembleAnswered}
use Rattle.assemble.proofs.Runs.{formed}

module _ (luma first second : List ℤ) (width height ratio : ℕ) (models : List Float) (cover : List ℕ) where
  abbrev call : AssembleCall
  call = assemble_call width height ratio models cover (fit_of luma first second)

  pub refused : (r : Refusal) → number_of r ≡ assemble_refusal call → AssembleAnswered call luma first second (Err r)
  refused r e =
      record { answer = e; slices = rw (← e, number_some r) (record { luma_is = refl; first_is = refl; second_is = refl }) }

  -- no row fits: assembly can run
  module _ (e : 0 ≡ assemble_refusal call) where
    pub ready : let sizes = sizes_of width height ratio in Source sizes models cover × Room luma first second sizes
    unfolding assemble_refusal
    ready =
        let ok = row_right _ refl (sym e) in
        let t = exact_in luma (first, second) (fit_length (width, height), fit_chroma_length (width, height) ratio) (ok 4 _ refl) in (
          record {
            formed = formed width height ratio (ok 0 _ refl) (ok 1 _ refl);
            models_long = eqb-true (length models) (models_length (width, height)) (ok 2 _ refl);
            cover_long = eqb-true (length cover) (cover_length (width, height)) (ok 3 _ refl);
          },
          record { luma_long = t.0; first_long = t.1; second_long = t.2 },
        )

    pub ran : (luma' first' second' : List ℤ) → Stored (assembled (model_slice models (width * height)) cover (width, height) ratio) luma' first' second'
        → AssembleAnswered call luma' first' second' (Ok tt)
    ran luma' first' second' done = record { answer = e; slices = rw (← e) done }
