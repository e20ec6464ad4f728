-- What is told of a parcel, by what its tests say. Assumes nothing.
use mathlib.Core.Path.{◌≡◌, ◌∙◌}
use mathlib.Core.Bool.{true, false, ◌&&◌}
use mathlib.Core.List.{List}
use Prim.Native.Nat.{ℕ}
use borrow.Author.Tests.{eq-eqb, ne_eqb}
use lib.ListN.{length}
use Rattle.rules.specs.Host.{little}
use Rattle.rules.specs.Domain.{are_sizes, is_ratio}
use Rattle.rules.specs.Refusals.{first_fitting}
use Rattle.rules.specs.Parcel.{records, is_whole, once_each, kinds_right, are_long, lengths_right, parcel_sizes_refusal}
use Rattle.std.specs.Prelude.{Ok, eqb}
use Rattle.parcel_refuse.specs.declared.Head.{Head}
use Rattle.parcel_refuse.specs.declared.Payloads.{Payloads}
use Rattle.parcel_refuse.specs.declared.Places.{Places}
use Rattle.parcel_refuse.specs.Surveys.{Held, AllPlaced, head_of, Surveyed}
use Rattle.parcel_refuse.proofs.Known.{first_is, kinds_are}

module _ (parcel : List ℕ) where
  -- the rows of kinds and of lengths
  pub wrong_kinds : is_whole parcel ≡ true → kinds_right (records parcel) ≡ false → 10 ≡ parcel_sizes_refusal parcel
  unfolding parcel_sizes_refusal first_fitting
  wrong_kinds w k = rw (w, k)

  pub wrong_lengths : is_whole parcel ≡ true → kinds_right (records parcel) ≡ true → lengths_right (records parcel) ≡ false → 11 ≡ parcel_sizes_refusal parcel
  unfolding parcel_sizes_refusal first_fitting
  wrong_lengths w k l = rw (w, k, l)

  pub all_right : is_whole parcel ≡ true → kinds_right (records parcel) ≡ true → lengths_right (records parcel) ≡ true → 0 ≡ parcel_sizes_refusal parcel
  unfolding parcel_sizes_refusal first_fitting
  all_right w k l = rw (w, k, l)

  -- the first two rows, by the tests of them
  pub right_kinds : length (records parcel) ≡ 6 → eqb (little 2 parcel 4) 1 ≡ true → once_each (records parcel) ≡ true → kinds_right (records parcel) ≡ true
  right_kinds six first once = kinds_are parcel six ∙ rw (first, once)

  -- ---- the head, six bytes long

  module _ (p : Payloads) (held : Held parcel p) (long : length p.head.now ≡ 6) (h : Head) (is : h ≡ head_of p.head.now) where
    -- its tests, and those of the other payloads
    pub lengths_are : lengths_right (records parcel) ≡ (are_sizes (h.width, h.height) && is_ratio h.ratio (h.width, h.height) && are_long (records parcel) (h.width, h.height) h.ratio)
    unfolding lengths_right
    lengths_are = rw (held.head, eq-eqb (length p.head.now) 6 long, is)

    pub wrong_sizes : are_sizes (h.width, h.height) ≡ false → lengths_right (records parcel) ≡ false
    wrong_sizes e = lengths_are ∙ rw e

    -- what is told where nothing is refused
    pub told_yes : (at : Places) → AllPlaced parcel p at → 0 ≡ parcel_sizes_refusal parcel → Surveyed parcel (Ok (record { head = h; payloads = p; places = at }))
    told_yes at placed e =
        record { number = e; seen = record { width = rw (held.head, is); height = rw (held.head, is); ratio = rw (held.head, is); held = held; placed = placed } }

  -- a head of another length
  pub short_head : (p : Payloads) → Held parcel p → (length p.head.now ≡ 6 → ⊥) → lengths_right (records parcel) ≡ false
  unfolding lengths_right
  short_head p held other = rw (held.head, ne_eqb (length p.head.now) 6 other)

-- what the tests of six records say
pub ruleset tests = (first_is, kinds_are, right_kinds, lengths_are, wrong_sizes, short_head, wrong_kinds, wrong_lengths, all_right, told_yes)
