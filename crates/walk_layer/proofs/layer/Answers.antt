-- What is left of `walk_layer::layer`: two refusals, and the layer that is fitted where there is none.
use Rattle.std.proofs.Common.{ℕ, List, sym, ap, ◌∙◌}
use Rattle.std.proofs.lemmas.Result.{err_from_is_err_and}
use Rattle.rules.specs.Walk.{parts_due}
use Rattle.calls.specs.Lent.{fit_of}
use Rattle.walk_layer.specs.Call.{numbers_of, slots_by}
use Rattle.walk_layer.proofs.Taken.{number_is, refused, is_due_lem, room, asks, ran}
use Rattle.walk_layer.proofs.layer.Goals as goal

pub returns-in_err-tested : goal.returns-in_err-tested
returns-in_err-tested c =
    let a = c.args in
    let output = fit_of a.luma.now a.chroma1.now a.chroma2.now in
    let p = err_from_is_err_and c.from_residual.result c.from_residual.ensures.1 in
    rw (p.1, p.2) (refused a.walk a.sums a.settings a.models.now a.kept.now a.cover.now output _ (number_is a.walk a.sums a.settings a.models.now a.kept.now a.cover.now output c.lengths_of.ensures (c.in_err-tested.ensures _)))

pub returns-in_err-rest : goal.returns-in_err-rest
returns-in_err-rest c =
    let a = c.args in
    let output = fit_of a.luma.now a.chroma1.now a.chroma2.now in
    let p = err_from_is_err_and c.from_residual-in_err-rest.result c.from_residual-in_err-rest.ensures.1 in
    rw (p.1, p.2)
    (refused a.walk a.sums a.settings a.models.now a.kept.now a.cover.now output _
    (number_is a.walk a.sums a.settings a.models.now a.kept.now a.cover.now output c.lengths_of.ensures (c.in_ok-tested.ensures _ ∙ sym (c.in_err-rest.ensures (parts_due a.walk (slots_by a.sums))))))

pub counts-requires : goal.counts-requires
counts-requires c =
    let a = c.args in
    let output = fit_of a.luma.now a.chroma1.now a.chroma2.now in
    let none = number_is a.walk a.sums a.settings a.models.now a.kept.now a.cover.now output c.lengths_of.ensures (c.in_ok-tested.ensures _ ∙ sym (c.in_ok-rest.ensures (parts_due a.walk (slots_by a.sums)))) in
    is_due_lem a.walk a.sums a.settings a.models.now a.kept.now a.cover.now output none

pub made-requires : goal.made-requires
made-requires c =
    let a = c.args in
    let output = fit_of a.luma.now a.chroma1.now a.chroma2.now in
    let none = number_is a.walk a.sums a.settings a.models.now a.kept.now a.cover.now output c.lengths_of.ensures (c.in_ok-tested.ensures _ ∙ sym (c.in_ok-rest.ensures (parts_due a.walk (slots_by a.sums)))) in
    let named = c.of_chunk-numbers.ensures ∙ ap (λ (pairs : List ℕ). numbers_of a.walk pairs a.settings) c.counts.ensures in
    asks a.walk a.sums a.settings a.models.now a.kept.now a.cover.now output none named c.ordered-order.ensures

pub after-requires : goal.after-requires
after-requires c =
    let a = c.args in
    let output = fit_of a.luma.now a.chroma1.now a.chroma2.now in
    let none = number_is a.walk a.sums a.settings a.models.now a.kept.now a.cover.now output c.lengths_of.ensures (c.in_ok-tested.ensures _ ∙ sym (c.in_ok-rest.ensures (parts_due a.walk (slots_by a.sums)))) in
    room a.walk a.sums a.settings a.models.now a.kept.now a.cover.now output none

pub returns : goal.returns
returns c =
    let a = c.args in
    let output = fit_of a.luma.now a.chroma1.now a.chroma2.now in
    let none = number_is a.walk a.sums a.settings a.models.now a.kept.now a.cover.now output c.lengths_of.ensures (c.in_ok-tested.ensures _ ∙ sym (c.in_ok-rest.ensures (parts_due a.walk (slots_by a.sums)))) in
    let named = c.of_chunk-numbers.ensures ∙ ap (λ (pairs : List ℕ). numbers_of a.walk pairs a.settings) c.counts.ensures in
    ran a.walk a.sums a.settings a.models.now a.kept.now a.cover.now output none named c.ordered-order.ensures _ _ _ _ _ _ c.made.ensures _ c.after.ensures
