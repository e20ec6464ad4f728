-- What is left to answer of `render_rows::Job::change`'s goals.
use mir.Syntax.{w32}
use mir.Facts.{to_z-of_z}
use Rattle.layer_lent.proofs.Signed.{back}
use Rattle.rules.specs.Reading.{gap}
use Rattle.render_rows.proofs.Changes.{put_is, keep_is}
use Rattle.render_rows.proofs.Job.change.Goals as goal

pub composed-requires : goal.composed-requires
unfolding gap
composed-requires g c =
    record { inside = c.requires.inside; near = rw (c.near-near.ensures, to_z-of_z c.ranges.distance, c.requires.distance) }

pub returns-then-reached : goal.returns-then-reached
unfolding gap
returns-then-reached g c =
    let t = rw (c.reached.ensures, c.gap.ensures, to_z-of_z c.ranges.distance, c.requires.distance) at c.if-reached.true in
    rw (c.composed.ensures, back w32 c.choice-algo.result c.choice-algo.type_inv, c.choice-algo.ensures) (put_is _ _ _ _ _ _ _ _ _ t)

pub returns-else-reached : goal.returns-else-reached
unfolding gap
returns-else-reached g c =
    keep_is _ _ _ _ _ _ _ _ _ (rw (c.reached.ensures, c.gap.ensures, to_z-of_z c.ranges.distance, c.requires.distance) at c.if-reached.false)
