-- `stats_gather::Task::gather_pixels` meets its contract. Assumes nothing.
use Rattle.std.proofs.Common.{◌≡◌, min, refl, arith}
use Rattle.stats_gather.proofs.Pixels.{row_none, row_more}
use Rattle.stats_gather.proofs.Task.gather_pixels.Goals as goal

pub loop-x-init : goal.loop-x-init
loop-x-init g c =
    let none : min 0 c.args.self.now.width ≡ 0 = omega arith in
    record { so_far = rw none (row_none _ _ _ _ _ _); holds = c.requires.started.holds }

pub loop-x-preserved : goal.loop-x-preserved
loop-x-preserved g c =
    let l = c.loop-x in
    let done = c.gather_run-held.ensures in
    record {
      so_far = row_more _ g.row.MANY _ c.args.y c.args.place l.x _ _ _ _ c.args.sums.now l.sums _ (omega arith) (omega arith) l.invariant.so_far refl done.sums;
      holds = done.holds;
    }

pub returns-2 : goal.returns-2
returns-2 g c =
    let l = c.loop-x in
    row_more _ g.row.MANY _ c.args.y c.args.place l.x _ _ _ _ c.args.sums.now l.sums _ (omega arith) (omega arith) l.invariant.so_far refl c.gather_run-held.ensures.sums
