-- What is left to answer of `assemble_offsets::held`'s goals.
use mathlib.Core.Path.{◌≡◌, refl, ◌∙◌}
use mathlib.Core.Bool.{Bool, true, false, cond}
use lib.Dec.{ltb}
use lib.IntN.{ℤ, pos, negsuc}
use mir.Syntax.{w32}
use Rattle.std.specs.Int.{int_max, int_min}
use Rattle.rules.specs.Assembly.{stored_total}
use Rattle.laws.proofs.Signed.{back}
use Rattle.assemble_offsets.proofs.Signed.{total_back}
use Rattle.assemble_offsets.proofs.held.Goals as goal

-- what `clamp` answers is what an offset holds
clamped : (total : ℤ) → int_max (negsuc 32767) (int_min total (pos 32767)) ≡ (stored_total total).0
unfolding stored_total
clamped (pos n) = go (ltb 32767 n)
  where
    go : (b : Bool) → int_max (negsuc 32767) (cond b (pos 32767) (pos n)) ≡ cond b (pos 32767) (pos n)
    go true = refl
    go false = refl
clamped (negsuc n) = refl

pub returns : goal.returns
returns c =
    let total = c.args.total in
    let e = (rw (back w32 total c.ranges.total.sfits) at c.clamp.ensures.value) ∙ clamped total in
    rw (back w32 c.clamp.result c.clamp.type_inv, e, total_back total) refl
