-- What the loops of a pass ask and give.
use Rattle.std.specs.Prelude.{◌≡◌, List, Option, ℕ, ◌+◌, ◌-◌, ◌*◌, ◌^◌, ◌≤◌, ◌<◌, length}
use Rattle.rules.specs.Forms.{Rule}
use Rattle.plane.specs.Done.{change, RowDone, RowsDone}
use Rattle.layer_lent.specs.declared.Plan.{Plan}
use Rattle.layer_lent.specs.Lent.{Held}
use Rattle.lift_pixel.specs.Works.{Bytes, rule_of}

-- a row of the output
pub record RowAsks (p : Plan) (output : List ℕ) (y count : ℕ) : Type 0 where
  pub above : y < p.down
  pub narrow : p.shape.output_pitch ≤ 65536
  pub room : y * p.shape.output_pitch + p.across ≤ length output
  pub few : count + 4096 < 2 ^ 63

-- a part of it, and what is counted before
pub record Run : Type 0 where
  pub y : ℕ
  pub from : ℕ
  pub to : ℕ
  pub count : ℕ

pub record RunAsks (p : Plan) (output : List ℕ) (s : Run) : Type 0 where
  pub above : s.y < p.down
  pub narrow : p.shape.output_pitch ≤ 65536
  pub ahead : s.from ≤ s.to
  pub within : s.to ≤ p.across
  pub room : s.y * p.shape.output_pitch + s.to ≤ length output
  pub few : s.count + (s.to - s.from) < 2 ^ 63

-- of a part of the plane
pub record PartAsks (p : Plan) (output : List ℕ) (y from to count : ℕ) : Type 0 where
  pub narrow : p.shape.output_pitch ≤ 65536
  pub room : y * p.shape.output_pitch + to ≤ length output
  pub few : count + (to - from) < 2 ^ 63

-- what a closure may be asked of each pixel of a part of a row, and that it does what the rule does
abbrev pub Changes : Rule → (y from to : ℕ) → (pre : (x y old : ℕ) → Type 0) → (post : (x y old : ℕ) → Option ℕ → Type 0) → Type 0
Changes rule y from to pre post =
    (x old : ℕ) → from ≤ x → x < to → pre x y old × ((d : Option ℕ) → post x y old d → d ≡ change rule x y old)

-- the whole output
pub record RowsAsk (p : Plan) (output : List ℕ) : Type 0 where
  pub apart : (p.across ≤ p.shape.output_pitch) × (p.shape.output_pitch ≤ 65536)
  pub long : (p.down - 1) * p.shape.output_pitch + p.across ≤ length output

-- a row that was done up to a column is done up to another
pub record RowOn (rule : Rule) (pitch y from to count : ℕ) (before after : List ℕ) (r : ℕ) : Type 0 where
  pub on : (first : List ℕ) (start : ℕ) → RowDone rule pitch y from start first before count → RowDone rule pitch y to start first after r
  pub few : r ≤ count + (to - from)

-- a part of a row, a row, and all rows, by a work
abbrev pub PartDone : Bytes → Plan → Held → (y from to count : ℕ) → (before after : List ℕ) → (r : ℕ) → Type 0
PartDone byte p held y from to count before after r =
    RowOn (rule_of byte p.shape held) p.shape.output_pitch y from to count before after r

abbrev pub RowBy : Bytes → Plan → Held → (y count : ℕ) → (before after : List ℕ) → (r : ℕ) → Type 0
RowBy byte p held y count before after r =
    RowDone (rule_of byte p.shape held) p.shape.output_pitch y p.across count before after r

abbrev pub RowsBy : Bytes → Plan → Held → (before after : List ℕ) → (r : ℕ) → Type 0
RowsBy byte p held before after r =
    RowsDone (rule_of byte p.shape held) p.across p.down p.shape.output_pitch before after r
