-- The invariant of `still_same::same_rows`: the first y rows are stored.
use Rattle.still_pass.specs.Table.{RowsStored}
use Rattle.still_same.specs.Same.{same_plane}
use Rattle.still_same.proofs.same_rows.Given as goal

abbrev pub invariant-loop-y : goal.invariant-loop-y
invariant-loop-y l =
    let f = l.frames in
    RowsStored f.width (same_plane f.first.now f.second.now f.pitch f.width f.height l.settings) l.y l.initial.still l.still
