-- The invariant of `lift_rows::run`: the stretch is done up to x, and counted from 0.
use mathlib.Core.Path.{◌≡◌}
use Prim.Native.Nat.{◌+◌}
use lib.ListN.{length}
use Rattle.lift_pixel.specs.Works.{rule_of}
use Rattle.lift_rows.specs.Rows.{RowOn}
use Rattle.lift_rows.proofs.run.Given as goal

abbrev pub invariant-loop-x : goal.invariant-loop-x
invariant-loop-x g l =
    let s = l.fn.stretch in
    let p = g.W.Over.plan s.over in
    record {
      done : RowOn (rule_of (g.W.Work.byte s.over) p.shape (g.W.Over.held s.over)) p.shape.output_pitch s.y s.from l.x l.fn.count l.initial.output l.output (l.fn.count + l.more);
      long : length l.output ≡ length l.initial.output;
    }
