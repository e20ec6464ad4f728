-- `float::pixel` meets its contract. Assumes nothing.
use mathlib.Core.Path.{sym, ◌∙◌}
use native.Mathlib.Omega.{arith}
use mathlib.Core.Bool.{false}
use lib.IntN.{pos}
use lib.Ieee.{fin, of_bits, lt}
use Rattle.rules.specs.Float.{pixel as pixel_of}
use Rattle.laws.proofs.Value.{T_of}
use Rattle.laws.proofs.Order.{lt_trans_float}
use Rattle.float.proofs.Held.{inside, past, not_above}
use Rattle.float.proofs.pixel.Goals as goal

pub nearest-requires : goal.nearest-requires
unfolding of_bits
nearest-requires c =
    let x = c.args.x in
    record {
      above = T_of (lt (fin false 0 (pos 0)) x) c.if-x.true;
      low = lt_trans_float x (fin false 255 (pos 0)) (fin false 1 (pos 16)) (T_of (lt x (fin false 255 (pos 0))) c.if-x-2.true) (unfold lt in tt);
    }

pub overflow_cast-result : goal.overflow_cast-result
unfolding of_bits
overflow_cast-result c =
    let fits = (inside 255 c.args.x c.if-x.true c.if-x-2.true).fits in
    omega (arith, c.nearest.ensures)

pub returns-then-x-2 : goal.returns-then-x-2
unfolding of_bits pixel_of
returns-then-x-2 c = c.nearest.ensures ∙ sym (simp ((inside 255 c.args.x c.if-x.true c.if-x-2.true).sign, (inside 255 c.args.x c.if-x.true c.if-x-2.true).same))

pub returns-else-x-2 : goal.returns-else-x-2
unfolding of_bits pixel_of
returns-else-x-2 c =
    let p = past 255 c.args.x c.if-x.true c.if-x-2.false in
    sym (simp (p.sign, p.same))

pub returns-else-x : goal.returns-else-x
unfolding of_bits pixel_of
returns-else-x c = sym (not_above 255 c.args.x c.if-x.false)
