-- The loop of `replay::tally::of`: each case begins after the one before it, and within the list.
use Rattle.std.proofs.Common.{◌-◌, length}
use Rattle.replay.proofs.tally.of.Given as goal

abbrev pub decreases-loop-at : goal.decreases-loop-at
decreases-loop-at l = length l.list - l.at
