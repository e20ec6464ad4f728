-- The invariant of `still_same::same_row`: the first x pixels are stored.
use Rattle.still_pass.specs.Table.{RowStored}
use Rattle.still_same.specs.Same.{same_plane}
use Rattle.still_same.proofs.same_row.Given as goal

abbrev pub invariant-loop-x : goal.invariant-loop-x
invariant-loop-x l =
    let f = l.frames in
    RowStored f.width (same_plane f.first.now f.second.now f.pitch f.width f.height l.settings) l.y l.x l.initial.still l.still
