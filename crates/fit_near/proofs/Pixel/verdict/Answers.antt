-- What is left to answer of `fit_near::Pixel::verdict`'s goals.
use native.Mathlib.Omega.{arith}
use mathlib.Core.Path.{sym, ◌∙◌}
use borrow.Author.Tests.{le-leb, lt-leb}
use Rattle.fit_near.proofs.Near.{pixel_in, verdict_is}
use Rattle.fit_near.proofs.Pixel.verdict.Goals as goal

pub model_at-model-requires : goal.model_at-model-requires
model_at-model-requires c =
    let p = c.args.self in
    let r = p.rough in
    omega (arith, c.place.ensures, pixel_in r.models.now r.width r.height p.x p.y p.left p.above, r.long)

pub returns-then-near-ge3 : goal.returns-then-near-ge3
returns-then-near-ge3 c =
    let p = c.args.self in
    let r = p.rough in
    let told = verdict_is r.models.now r.width r.height p.x p.y p.left p.above c.model_at-model.result (c.model_at-model.ensures ∙ rw c.place.ensures) in
    sym (told ∙ rw (← c.set.ensures, c.if-set.true, ← c.near.ensures, le-leb _ _ c.if-near-ge3.true))

pub returns-else-near-ge3 : goal.returns-else-near-ge3
returns-else-near-ge3 c =
    let p = c.args.self in
    let r = p.rough in
    let told = verdict_is r.models.now r.width r.height p.x p.y p.left p.above c.model_at-model.result (c.model_at-model.ensures ∙ rw c.place.ensures) in
    sym (told ∙ rw (← c.set.ensures, c.if-set.true, ← c.near.ensures, lt-leb _ _ c.if-near-ge3.false))

pub returns-then-plain : goal.returns-then-plain
returns-then-plain c =
    let p = c.args.self in
    let r = p.rough in
    let told = verdict_is r.models.now r.width r.height p.x p.y p.left p.above c.model_at-model.result (c.model_at-model.ensures ∙ rw c.place.ensures) in
    sym (told ∙ rw (← c.set.ensures, c.if-set.false, ← c.plain.ensures, c.if-plain.true))

pub returns-else-plain : goal.returns-else-plain
returns-else-plain c =
    let p = c.args.self in
    let r = p.rough in
    let told = verdict_is r.models.now r.width r.height p.x p.y p.left p.above c.model_at-model.result (c.model_at-model.ensures ∙ rw c.place.ensures) in
    sym (told ∙ rw (← c.set.ensures, c.if-set.false, ← c.plain.ensures, c.if-plain.false))
