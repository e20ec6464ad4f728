-- A pair that a walk is handed, as the call's parameters give it.
use Rattle.std.specs.Prelude.{List, ℕ, ◌%◌}
use Rattle.rules.specs.declared.Walk.{Walk}
use Rattle.rules.specs.Forms.{Slot}
use Rattle.rules.specs.Calls.{WalkPairCall}
use Rattle.calls.specs.Lent.{walk_pair_call}
use Rattle.stats_refuse.specs.declared.Numbers.{Numbers}
use Rattle.stats_refuse.specs.declared.Pair.{Pair}
use Rattle.stats_refuse.specs.Call.{pair_by}

-- the numbers of stats, for the part of a pair's chunk
abbrev pub chunk_numbers : Walk → Numbers
chunk_numbers w = record { pairs = w.added % 12; width = w.width; height = w.height; ratio = w.ratio }

-- the call
abbrev pub handed_by : Walk → List Slot → Pair → (number : ℕ) → WalkPairCall
handed_by w slots p number = walk_pair_call w slots number (pair_by p)
