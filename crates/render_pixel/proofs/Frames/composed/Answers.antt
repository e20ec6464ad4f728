-- What is left to answer of `render_pixel::Frames::composed`'s goals.
use mathlib.Core.Path.{ap}
use native.Mathlib.Omega.{arith}
use mir.Facts.{to_z-of_z}
use Rattle.rules.specs.Float.{pixel}
use Rattle.rules.specs.Peel.{layered}
use Rattle.render_pixel.specs.Shown.{byte_by}
use Rattle.render_pixel.specs.Framed.{frames_of}
use Rattle.render_pixel.proofs.Own.{base_is, kept_is, laid_is}
use Rattle.render_pixel.proofs.Frames.composed.Goals as goal

pub returns-then-kept : goal.returns-then-kept
unfolding byte_by layered
returns-then-kept g c =
    let t = rw (
      c.kept.ensures,
      c.plain.ensures,
      c.at-late.ensures,
      c.at-early.ensures,
      c.texel-model.ensures,
      c.requires.near,
    ) at c.if-kept.true in
    rw (c.pixel.ensures, c.mix.ensures, c.at-late.ensures, c.at-early.ensures) (ap pixel (kept_is _ _ _ _ _ _ t))

pub returns : goal.returns
unfolding byte_by layered
returns g c =
    let t = rw (
      c.kept.ensures,
      c.plain.ensures,
      c.at-late.ensures,
      c.at-early.ensures,
      c.texel-model.ensures,
      c.requires.near,
    ) at c.if-kept.false in
    let i = c.requires.inside in
    let f = c.args.self.now in
    let p = f.first.sheet.sound.planned in
    rw (
      c.pixel-2.ensures,
      c.seen-scene.ensures,
      c.base-base.ensures,
      c.at-late.ensures,
      c.at-early.ensures,
      c.texel-model.ensures,
      to_z-of_z c.ranges.algo,
      base_is _ _ (frames_of f) c.args.spot.x c.args.spot.y
          (omega (arith, i.left, p.wide)) (omega (arith, i.above, p.tall)) f.first_small f.second_small,
    )
    (ap pixel (laid_is _ _ _ _ _ _ t))
