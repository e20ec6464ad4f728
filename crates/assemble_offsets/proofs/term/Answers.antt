-- `assemble_offsets::term` meets its contract. Assumes nothing.
use mathlib.Core.Path.{◌≡◌, ap}
use Prim.Native.Nat.{◌≤◌}
use native.Mathlib.Omega.{arith}
use lib.IntN.{nat_abs}
use mir.Syntax.{w16, w32}
use Rattle.rules.specs.declared.Offset.{Offset}
use Rattle.assemble_offsets.specs.Sizes.{term_of}
use Rattle.assemble_offsets.proofs.Signed.{term_size}
use Rattle.laws.proofs.Signed.{again}
use Rattle.assemble_offsets.proofs.term.Goals as goal

-- what is stored is the term
pub returns : goal.returns
unfolding term_of
returns c =
    let z = c.stored_offset-offset.result.0 in
    let is : z ≡ term_of c.args.models.now c.args.plane c.args.share c.args.at = ap (λ (o : Offset). o.0) c.stored_offset-offset.ensures in
    let low : nat_abs z ≤ 32767 = rw is (term_size c.args.models.now c.args.plane c.args.share c.args.at) in
    rw (c.from.ensures, again w16 z (omega arith), again w32 z (omega arith)) is
