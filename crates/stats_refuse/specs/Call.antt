-- A call of stats, as its parameters give it.
use Rattle.std.specs.Prelude.{List, Float}
use Rattle.rules.specs.Forms.{Plane, Part}
use Rattle.rules.specs.Forms.{Pair as Paired}
use Rattle.rules.specs.Calls.{StatsCall}
use Rattle.calls.specs.Lent.{part_of, stats_call}
use Rattle.sample.specs.Points.{plane_by}
use Rattle.motion.specs.Moves.{motion_of}
use Rattle.stats_refuse.specs.declared.Frame.{Frame}
use Rattle.stats_refuse.specs.declared.Pair.{Pair}
use Rattle.stats_refuse.specs.declared.Numbers.{Numbers}

-- the planes of a frame
abbrev pub planes_of : Frame → Plane × Plane × Plane
planes_of f = (plane_by f.luma, plane_by f.chroma1, plane_by f.chroma2)

-- the planes of two frames, and the motion between them
abbrev pub pair_by : Pair → Paired
pair_by p = record { first = planes_of p.first; second = planes_of p.second; motion = motion_of p.fields p.grid }

-- the call, to these sums
abbrev pub call_by : Part → Pair → Numbers → StatsCall
call_by sums p n = stats_call sums n.width n.height n.ratio (pair_by p)

abbrev pub stats_by : (luma chroma1 chroma2 : List Float) → Pair → Numbers → StatsCall
stats_by luma chroma1 chroma2 p n = call_by (part_of luma chroma1 chroma2 n.pairs) p n
