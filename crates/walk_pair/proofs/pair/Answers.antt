-- What is left of `walk_pair::pair`: a refusal, and the pair that is added to slot 0, 1 or 2.
use Rattle.std.proofs.Common.{◌≡◌, ◌%◌, refl, sym, ◌∙◌, arith}
use Rattle.std.proofs.lemmas.Result.{err_from_is_err_and}
use Rattle.rules.specs.Walk.{chunk_of}
use Rattle.calls.specs.Lent.{slots_of}
use Rattle.walk_pair.proofs.Handed.{number_by, refused, more, taken, ran}
use Rattle.walk_pair.proofs.pair.Goals as goal
use Rattle.walk_pair.proofs.pair.Goals.{in-0, in-1, in_default}

pub returns-in_err-tested : goal.returns-in_err-tested
returns-in_err-tested c =
    let a = c.args in
    let slots = slots_of a.luma0.now a.chroma01.now a.chroma02.now a.luma1.now a.chroma11.now a.chroma12.now a.luma2.now a.chroma21.now a.chroma22.now in
    let p = err_from_is_err_and c.from_residual.result c.from_residual.ensures.1 in
    rw (p.1, p.2)
    (refused a.walk slots a.pair a.number _
    (number_by a.walk a.pair a.number
    a.luma0.now a.chroma01.now a.chroma02.now a.luma1.now a.chroma11.now a.chroma12.now a.luma2.now a.chroma21.now a.chroma22.now c.in_err-tested.ensures))

pub added-requires : goal.added-requires
added-requires c =
    let a = c.args in
    let slots = slots_of a.luma0.now a.chroma01.now a.chroma02.now a.luma1.now a.chroma11.now a.chroma12.now a.luma2.now a.chroma21.now a.chroma22.now in
    let none = number_by a.walk a.pair a.number
    a.luma0.now a.chroma01.now a.chroma02.now a.luma1.now a.chroma11.now a.chroma12.now a.luma2.now a.chroma21.now a.chroma22.now c.in_ok-tested.ensures in
    let place : chunk_of a.walk.added % 3 ≡ 0 = sym c.slot_of.ensures ∙ c.in-0.is in
    rw c.of_chunk-numbers.ensures (taken a.walk slots a.pair a.number (a.luma0.now, a.chroma01.now, a.chroma02.now) (rw place) refl none)

pub added-requires-in-1 : goal.added-requires-in-1
added-requires-in-1 c =
    let a = c.args in
    let slots = slots_of a.luma0.now a.chroma01.now a.chroma02.now a.luma1.now a.chroma11.now a.chroma12.now a.luma2.now a.chroma21.now a.chroma22.now in
    let none = number_by a.walk a.pair a.number
    a.luma0.now a.chroma01.now a.chroma02.now a.luma1.now a.chroma11.now a.chroma12.now a.luma2.now a.chroma21.now a.chroma22.now c.in_ok-tested.ensures in
    let place : chunk_of a.walk.added % 3 ≡ 1 = sym c.slot_of.ensures ∙ c.in-1.is in
    rw c.of_chunk-numbers.ensures (taken a.walk slots a.pair a.number (a.luma1.now, a.chroma11.now, a.chroma12.now) (rw place) refl none)

pub added-requires-in_default : goal.added-requires-in_default
added-requires-in_default c =
    let a = c.args in
    let slots = slots_of a.luma0.now a.chroma01.now a.chroma02.now a.luma1.now a.chroma11.now a.chroma12.now a.luma2.now a.chroma21.now a.chroma22.now in
    let none = number_by a.walk a.pair a.number
    a.luma0.now a.chroma01.now a.chroma02.now a.luma1.now a.chroma11.now a.chroma12.now a.luma2.now a.chroma21.now a.chroma22.now c.in_ok-tested.ensures in
    let place : chunk_of a.walk.added % 3 ≡ 2 = omega (arith, c.slot_of.ensures) in
    rw c.of_chunk-numbers.ensures (taken a.walk slots a.pair a.number (a.luma2.now, a.chroma21.now, a.chroma22.now) (rw place) refl none)

pub after-requires : goal.after-requires
after-requires c =
    let a = c.args in
    let slots = slots_of a.luma0.now a.chroma01.now a.chroma02.now a.luma1.now a.chroma11.now a.chroma12.now a.luma2.now a.chroma21.now a.chroma22.now in
    let none = number_by a.walk a.pair a.number
    a.luma0.now a.chroma01.now a.chroma02.now a.luma1.now a.chroma11.now a.chroma12.now a.luma2.now a.chroma21.now a.chroma22.now c.in_ok-tested.ensures in
    more a.walk slots a.pair a.number none

pub returns : goal.returns
returns c =
    let a = c.args in
    let slots = slots_of a.luma0.now a.chroma01.now a.chroma02.now a.luma1.now a.chroma11.now a.chroma12.now a.luma2.now a.chroma21.now a.chroma22.now in
    let none = number_by a.walk a.pair a.number
    a.luma0.now a.chroma01.now a.chroma02.now a.luma1.now a.chroma11.now a.chroma12.now a.luma2.now a.chroma21.now a.chroma22.now c.in_ok-tested.ensures in
    elim c.match-slot_of.branch [
      | in-0 w ↦
          let place : chunk_of a.walk.added % 3 ≡ 0 = sym c.slot_of.ensures ∙ w.in-0.is in
          rw (w.luma0-is, w.chroma01-is, w.chroma02-is, w.luma1-is, w.chroma11-is, w.chroma12-is, w.luma2-is, w.chroma21-is, w.chroma22-is)
          (ran a.walk slots a.pair a.number (a.luma0.now, a.chroma01.now, a.chroma02.now) (rw place) none c.of_chunk-numbers.ensures 0 place _ _ _ w.added.ensures _ c.after.ensures)
      | in-1 w ↦
          let place : chunk_of a.walk.added % 3 ≡ 1 = sym c.slot_of.ensures ∙ w.in-1.is in
          rw (w.luma0-is, w.chroma01-is, w.chroma02-is, w.luma1-is, w.chroma11-is, w.chroma12-is, w.luma2-is, w.chroma21-is, w.chroma22-is)
          (ran a.walk slots a.pair a.number (a.luma1.now, a.chroma11.now, a.chroma12.now) (rw place) none c.of_chunk-numbers.ensures 1 place _ _ _ w.added-in-1.ensures _ c.after.ensures)
      | in_default w ↦
          let place : chunk_of a.walk.added % 3 ≡ 2 = omega (arith, c.slot_of.ensures) in
          rw (w.luma0-is, w.chroma01-is, w.chroma02-is, w.luma1-is, w.chroma11-is, w.chroma12-is, w.luma2-is, w.chroma21-is, w.chroma22-is)
          (ran a.walk slots a.pair a.number (a.luma2.now, a.chroma21.now, a.chroma22.now) (rw place) none c.of_chunk-numbers.ensures 2 place _ _ _ w.added-in_default.ensures _ c.after.ensures)
    ]
