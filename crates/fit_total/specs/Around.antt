-- Three parts of one pixel as the rules take them, and what a trial adds of them.
use Rattle.std.specs.Prelude.{Bool, ◌&&◌, List, [], Float}
use Rattle.rules.specs.declared.Trial.{Trial}
use Rattle.rules.specs.Forms.{Parts}
use Rattle.rules.specs.Literals.{0·0}
use Rattle.rules.specs.Float.{◌⊕◌}
use Rattle.rules.specs.Window.{present, plus, has_previous, has_next}
use Rattle.calls.specs.Lent.{listed}
use Rattle.fit_total.specs.declared.Added.{Added}
use Rattle.fit_total.specs.declared.Counts.{Counts}
use Rattle.fit_total.specs.declared.Plane.{Plane}
use Rattle.fit_total.specs.declared.Window.{Window}
use Rattle.fit_total.specs.Counted.{luma_part, parts_by}

-- three parts with these luma sums
abbrev pub luma_parts : (previous own next : List Float) → Counts → Parts
luma_parts previous own next c = parts_by previous own next c.previous c.own c.next

-- with those of one plane
abbrev pub plane_parts : Plane → Counts → Parts
plane_parts p c = luma_parts p.previous.now p.own.now p.next.now c

-- the parts of one pixel
abbrev pub around : Window → Parts
around w = luma_parts (listed w.previous) (listed w.own) (listed w.next) w.counts.now

-- which neighbours a trial adds
abbrev pub added_of : Counts → Trial → Added
added_of c trial =
    record {
      before = has_previous trial && present (luma_part [] c.previous);
      after = has_next trial && present (luma_part [] c.next);
    }

-- `total`, of the three terms and of whether the neighbours' are added
abbrev pub total_of : (before after : Bool) → (p o n : Float) → Float
total_of before after p o n = plus after (plus before 0·0 p ⊕ o) n
