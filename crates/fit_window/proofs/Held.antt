-- The search takes no notice of what an absent part holds, so it may be made over the sums of one pixel.
-- Assumes nothing.
use mathlib.Core.Path.{◌≡◌, refl}
use mathlib.Core.Bool.{Bool, true, false, cond, ◌&&◌}
use mathlib.Core.List.{List, [], ◌∷◌}
use Prim.Native.Nat.{ℕ, ◌+◌, ◌*◌}
use lib.ListN.{get_or}
use lib.Ieee.{Float, nan}
use Rattle.rules.specs.declared.Trial.{Trial}
use Rattle.rules.specs.declared.Trial.TheVariants.{All, PreviousOwn, OwnNext}
use Rattle.rules.specs.Forms.{Parts}
use Rattle.rules.specs.Literals.{0·0}
use Rattle.rules.specs.Model.{model, set}
use Rattle.rules.specs.Window.{count, present, has_previous, has_next, sum, total, totals, tried, best, own_same, pick, strictly_set, window}
use Rattle.calls.specs.Lent.{listed}
use Rattle.fit_total.specs.declared.Counts.{Counts}
use Rattle.fit_total.specs.Counted.{luma_part}
use Rattle.fit_total.specs.Around.{luma_parts, total_of}
use Rattle.fit_total.specs.Alike.{entry_of}
use Rattle.fit_total.proofs.Held.{held}
use Rattle.fit_window.specs.declared.Lent.{Lent}
use Rattle.fit_window.specs.Lent.{parts_lent}
use Rattle.fit_window.specs.Read.{sums_at, sums_of}

-- six that are not looked at may be any
unlooked : (b : Bool) (f : List Float → Bool) (x₀ x₁ x₂ x₃ x₄ x₅ : Float)
    → (b && f (cond b x₀ 0·0 ∷ cond b x₁ 0·0 ∷ cond b x₂ 0·0 ∷ cond b x₃ 0·0 ∷ cond b x₄ 0·0 ∷ cond b x₅ 0·0 ∷ []))
    ≡ (b && f (x₀ ∷ x₁ ∷ x₂ ∷ x₃ ∷ x₄ ∷ x₅ ∷ []))
unlooked true f x₀ x₁ x₂ x₃ x₄ x₅ = refl
unlooked false f x₀ x₁ x₂ x₃ x₄ x₅ = refl

set_held : (pairs : ℕ) (s : List Float) (at : ℕ) (limit : Float)
    → strictly_set 0 limit (luma_part (listed (sums_of pairs s at)) pairs) ≡ strictly_set at limit (luma_part s pairs)
set_held pairs s at limit =
    unlooked (present (luma_part s pairs)) (λ t. set (model t (count (luma_part s pairs)) limit true))
    (sum at 0 (luma_part s pairs)) (sum at 1 (luma_part s pairs)) (sum at 2 (luma_part s pairs)) (sum at 3 (luma_part s pairs)) (sum at 4 (luma_part s pairs)) (sum at 5 (luma_part s pairs))

module _ (l : Lent) (at : ℕ) where
  abbrev c : Counts
  c = l.counts

  -- the parts, and those of the pixel
  abbrev whole : Parts
  whole = parts_lent l

  abbrev previous : List Float
  previous = l.luma.previous.now

  abbrev own : List Float
  own = l.luma.own.now

  abbrev next : List Float
  next = l.luma.next.now

  abbrev one : Parts
  one = luma_parts (listed (sums_of c.previous previous at)) (listed (sums_at own at)) (listed (sums_of c.next next at)) c

  one_total : (t : Trial) (k : ℕ)
      → total_of (has_previous t && present whole.previous) (has_next t && present whole.next) (entry_of c.previous previous (at * 6 + k)) (get_or own (at * 6 + k) nan)
      (entry_of c.next next (at * 6 + k))
      ≡ total whole t (sum at k)
  unfolding total
  one_total t k =
      held (present whole.previous) (present whole.next) (has_previous t) (has_next t) (get_or previous (at * 6 + k) nan) (get_or own (at * 6 + k) nan) (get_or next (at * 6 + k) nan)

  one-totals : (t : Trial) → totals one t 0 ≡ totals whole t at
  unfolding total
  one-totals t = cc (one_total t 0, one_total t 1, one_total t 2, one_total t 3, one_total t 4, one_total t 5)

  one_samples : (t : Trial) → total one t count ≡ total whole t count
  unfolding total
  one_samples t = refl

  one-tried : (limit : Float) (strict : Bool) (t : Trial) → tried one 0 limit strict t ≡ tried whole at limit strict t
  unfolding tried
  one-tried limit strict t = cc (one-totals t, one_samples t)

  one-pick : (limit evidence : Float) (strict : Bool) → pick one 0 limit evidence strict ≡ pick whole at limit evidence strict
  unfolding pick best own_same
  one-pick limit evidence strict = rw (one-tried limit strict All, one-tried limit strict PreviousOwn, one-tried limit strict OwnNext)

  pub one-window : (limit evidence : Float) (strict : Bool) → window one 0 limit evidence strict ≡ window whole at limit evidence strict
  unfolding window
  one-window limit evidence strict =
      rw (one-pick limit evidence true, one-pick limit evidence false, set_held c.previous previous at limit, set_held c.next next at limit)
