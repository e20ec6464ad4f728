-- The models and kept bytes are those of the rows before y.
use Rattle.std.proofs.Common.{◌≡◌, List, ℕ}
use Rattle.std.specs.Prelude.{Float}
use Rattle.rules.specs.Forms.{scan}
use Rattle.fit_window.specs.Lent.{parts_lent}
use Rattle.fit_rough.specs.Search.{search_at}
use Rattle.fit_rough.proofs.Search.rows.Given as goal

abbrev pub invariant-loop-y : goal.invariant-loop-y
invariant-loop-y l =
    let s = l.self in
    ◌≡◌ {A = List Float × List ℕ} (l.models, l.kept) (scan (search_at (parts_lent s.lent) s.sizes s.settings) (s.sizes.width, l.y) (l.initial.models, l.initial.kept))
