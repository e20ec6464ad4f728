-- A call over byte planes that views show.
use Rattle.std.specs.Prelude.{List, ℕ}
use Rattle.rules.specs.Calls.{PeelCall, UnpeelCall}
use Rattle.layer_lent.specs.declared.Shape.{Shape}
use Rattle.layer_lent.specs.Lent.{Held}
use Rattle.peel.specs.Call.{peel_of, unpeel_of}
use Rattle.view.specs.declared.View.{View}

abbrev pub peel_seen : Shape → Held → (output : List ℕ) → View → PeelCall
peel_seen s held output raw = peel_of s held output raw.bytes raw.pitch

abbrev pub unpeel_seen : Shape → Held → (output : List ℕ) → (first second : View) → UnpeelCall
unpeel_seen s held output first second = unpeel_of s held output first.bytes first.pitch second.bytes second.pitch
