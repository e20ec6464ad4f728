-- What a verdict says of the rules. Assumes nothing.
use mathlib.Core.Path.{◌≡◌, refl, sym, ap, ◌∙◌}
use mathlib.Core.Bool.{Bool, true, false, cond, not, ◌&&◌, false≢true}
use mathlib.Core.List.{List}
use Prim.Native.Nat.{ℕ, ◌/◌, ◌%◌}
use lib.Dec.{leb, eqb}
use lib.ListN.{get_or}
use Rattle.rules.specs.Model.{Fitted, unfitted, set, is_plain}
use Rattle.rules.specs.Keeping.{model_of, near, kept, cell_of, marks}
use Rattle.laws.proofs.Points.{set-plain}
use Rattle.fit_near.specs.declared.Verdict.{Verdict}
use Rattle.fit_near.specs.declared.Verdict.TheVariants.{Dropped, Unmarked, Marked}
use Rattle.fit_near.specs.Verdict.{verdict_of}

-- whether a pixel is kept, whether it marks its cell, and its kept byte
abbrev pub is_kept : Verdict → Bool
is_kept Dropped = false
is_kept Unmarked = true
is_kept Marked = true

abbrev pub is_marked : Verdict → Bool
is_marked Dropped = false
is_marked Unmarked = false
is_marked Marked = true

abbrev pub byte_of : Verdict → ℕ
byte_of Dropped = 2
byte_of Unmarked = 1
byte_of Marked = 1

module _ (rough : List Fitted) (size : ℕ × ℕ) (at : ℕ) where
  pub kept_is : kept rough size at ≡ is_kept (verdict_of rough size at)
  unfolding kept verdict_of
  kept_is = go (set (model_of rough at)) (leb 3 (near rough size (at % size.0) (at / size.0))) (is_plain (model_of rough at))
    where
      go : (a b c : Bool) → cond a b (not c) ≡ is_kept (cond a (cond b Marked Dropped) (cond c Dropped Unmarked))
      go true true c = refl
      go true false c = refl
      go false b true = refl
      go false b false = refl

  pub marks_is : (cell : ℕ) → marks rough size cell at ≡ (is_marked (verdict_of rough size at) && eqb (cell_of size.0 at) cell)
  unfolding marks kept verdict_of
  marks_is cell = go (set (model_of rough at)) (leb 3 (near rough size (at % size.0) (at / size.0))) (is_plain (model_of rough at)) (eqb (cell_of size.0 at) cell)
    where
      go : (a b c e : Bool) → (a && cond a b (not c) && e) ≡ (is_marked (cond a (cond b Marked Dropped) (cond c Dropped Unmarked)) && e)
      go true true c e = refl
      go true false c e = refl
      go false b true e = refl
      go false b false e = refl

  -- (1, 0) marks nothing
  pub marks_none : (cell : ℕ) → get_or rough at unfitted ≡ unfitted → marks rough size cell at ≡ false
  unfolding marks
  marks_none cell e = go (set (model_of rough at)) (kept rough size at) (eqb (cell_of size.0 at) cell) (ap (λ (m : Fitted). set m.model) e ∙ set-plain)
    where
      go : (a b c : Bool) → a ≡ false → (a && b && c) ≡ false
      go true b c q = absurd (false≢true (sym q))
      go false b c q = refl
