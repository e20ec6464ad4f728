-- The models and kept bytes are those of the row's pixels before x.
use Rattle.std.proofs.Common.{◌≡◌, List, ℕ}
use Rattle.std.specs.Prelude.{Float}
use Rattle.rules.specs.Forms.{scan_row}
use Rattle.fit_window.specs.Lent.{parts_lent}
use Rattle.fit_rough.specs.Search.{search_at}
use Rattle.fit_rough.proofs.Search.row.Given as goal

abbrev pub invariant-loop-x : goal.invariant-loop-x
invariant-loop-x l =
    let s = l.self in
    ◌≡◌ {A = List Float × List ℕ} (l.models, l.kept) (scan_row (search_at (parts_lent s.lent) s.sizes s.settings) l.y l.x (l.initial.models, l.initial.kept))
