-- The models before `at` are reset, the others as they were.
use Rattle.std.proofs.Common.{◌≡◌}
use Rattle.rules.specs.Forms.{turns}
use Rattle.fit_keep.specs.Pass.{reset_step}
use Rattle.fit_keep.proofs.reset.Given as goal

abbrev pub invariant-loop-at : goal.invariant-loop-at
invariant-loop-at l = l.models ≡ turns (reset_step l.kept) l.at l.initial.models
