-- What becomes of a pixel.
use Rattle.std.specs.Prelude.{cond, List, ℕ, ◌+◌, ◌*◌, ◌/◌, ◌%◌, leb}
use Rattle.rules.specs.Forms.{how_many}
use Rattle.rules.specs.Model.{Fitted, set, is_plain}
use Rattle.rules.specs.Keeping.{beside, model_of, near}
use Rattle.fit_near.specs.declared.Verdict.{Verdict}
use Rattle.fit_near.specs.declared.Verdict.TheVariants.{Dropped, Unmarked, Marked}

-- "A set pixel is kept if at least 3 .. are set", "Other models but (1, 0) are kept without that test", "Each kept set
-- pixel marks its .. cell"
unfoldable pub verdict_of : (rough : List Fitted) → (size : ℕ × ℕ) → (at : ℕ) → Verdict
verdict_of rough size at =
    let m = model_of rough at in
    cond (set m) (cond (leb 3 (near rough size (at % size.0) (at / size.0))) Marked Dropped) (cond (is_plain m) Dropped Unmarked)

-- how many of the first n neighbours are set
unfoldable pub near_below : (rough : List Fitted) → (size : ℕ × ℕ) → (x y n : ℕ) → ℕ
near_below rough size x y n =
    how_many n (λ side. set (model_of rough (beside y (side / 3) size.1 * size.0 + beside x (side % 3) size.0)))
