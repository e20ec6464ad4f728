-- A call of fit that no row of its table fits: it can be run. Assumes nothing.
use mathlib.Core.Path.{◌≡◌, refl, ◌∙◌, sym}
use mathlib.Core.Bool.{true}
use mathlib.Core.List.{List}
use Prim.Native.Nat.{ℕ}
use native.Mathlib.Omega.{arith}
use borrow.Author.Tests.{leb-true, eqb-true, ne_eqb}
use lib.Dec.{leb}
use lib.IntN.{ℤ}
use lib.ListN.{length}
use lib.Ieee.{Float}
use Rattle.rules.specs.Forms.{Part, Parts}
use Rattle.rules.specs.Domain.{sums_length, chroma_sums_length, fit_length, fit_chroma_length, models_length, kept_length, cover_length, are_sums}
use Rattle.rules.specs.Refusals.{is_neighbour, fit_refusal}
use Rattle.laws.proofs.Accepted.{both, row_right, exact_in}
use Rattle.plane.specs.Slices.{Slices}
use Rattle.fit_refuse.specs.declared.Numbers.{Numbers}
use Rattle.assemble_store.specs.Entries.{Source, Room}
use Rattle.calls.specs.Lent.{fit_of}
use Rattle.assemble.specs.Call.{sizes_of}
use Rattle.assemble.proofs.Runs.{formed}
use Rattle.fit_refuse.specs.Call.{parts_by, fit_by}
use Rattle.fit.specs.Call.{Beside, Asks}

-- a neighbour that is present is as long as the own part
beside_in : (own other : Part) (width height ratio : ℕ) → are_sums own (width, height) ratio ≡ true → is_neighbour other (width, height) ratio ≡ true → Beside own other
beside_in own other width height ratio sums neighbour some =
    let a = exact_in own.luma own.chroma (sums_length (width, height), chroma_sums_length (width, height) ratio) sums in
    let b = exact_in other.luma other.chroma (sums_length (width, height), chroma_sums_length (width, height) ratio)
    (rw (ne_eqb other.pairs 0 (λ e. omega arith)) at neighbour) in
    (b.0 ∙ sym a.0, b.1 ∙ sym a.1, b.2 ∙ sym a.2)

module _ (sums : Slices Float) (n : Numbers) (models : List Float) (kept cover : List ℕ) (luma first second : List ℤ)
    (e : fit_refusal (fit_by sums n models kept cover (fit_of luma first second)) ≡ 0) where
  abbrev parts : Parts
  parts = parts_by sums n.pairs

  abbrev width : ℕ
  width = n.width

  abbrev height : ℕ
  height = n.height

  abbrev ratio : ℕ
  ratio = n.ratio

  pub asks : Asks parts (sizes_of width height ratio) models kept cover
  unfolding fit_refusal
  asks =
      let ok = row_right _ refl e in
      let f = formed width height ratio (ok 0 _ refl) (ok 1 _ refl) in
      let own = exact_in parts.own.luma parts.own.chroma (sums_length (width, height), chroma_sums_length (width, height) ratio) (ok 3 _ refl) in
      let pairs = both (leb 1 parts.own.pairs) (leb parts.own.pairs 12) (ok 12 _ refl) in
      record {
        formed = f;
        few = (leb-true _ _ (ok 11 _ refl), leb-true _ _ pairs.1, leb-true _ _ (ok 13 _ refl));
        previous_long = beside_in parts.own parts.previous width height ratio (ok 3 _ refl) (ok 2 _ refl);
        next_long = beside_in parts.own parts.next width height ratio (ok 3 _ refl) (ok 4 _ refl);
        own_long = own.0;
        first_long = own.1;
        second_long = own.2;
        work = record {
          wide = f.wide.1;
          tall = f.tall.1;
          models_long = eqb-true (length models) (models_length (width, height)) (ok 5 _ refl);
          kept_long = eqb-true (length kept) (kept_length (width, height)) (ok 6 _ refl);
          cover_long = eqb-true (length cover) (cover_length (width, height)) (ok 7 _ refl);
        };
      }

  room : Room luma first second (sizes_of width height ratio)
  unfolding fit_refusal
  room =
      let t = exact_in luma (first, second) (fit_length (width, height), fit_chroma_length (width, height) ratio) (row_right _ refl e 8 _ refl) in
      record { luma_long = t.0; first_long = t.1; second_long = t.2 }

  -- and so can assembly be, on work slices of the same lengths
  pub assembles : (models' : List Float) (cover' : List ℕ) → length models' ≡ length models → length cover' ≡ length cover
      → let sizes = sizes_of width height ratio in Source sizes models' cover' × Room luma first second sizes
  assembles models' cover' m k = (record { formed = asks.formed; models_long = m ∙ asks.work.models_long; cover_long = k ∙ asks.work.cover_long }, room)
