-- What is left to answer of `assemble_store::store`'s goals.
use mathlib.Core.Path.{◌∙◌}
use native.Mathlib.Nat.{le_antisymm}
use Rattle.assemble_store.proofs.Rows.{rows_none, rows_join, rows_whole}
use Rattle.assemble_store.proofs.store.Goals as goal

pub loop-y-init : goal.loop-y-init
loop-y-init c = rows_none _ _ _ _

pub loop-y-preserved : goal.loop-y-preserved
loop-y-preserved c = rows_join c.loop-y.invariant c.store_row.ensures

pub returns : goal.returns
returns c =
    let l = c.loop-y in
    let room = c.requires.room in
    rows_whole c.args.sizes c.requires.source.formed _ _ _ _ _ _ _ _
    (record { luma_long = l.auto.luma ∙ room.luma_long; first_long = l.auto.chroma1 ∙ room.first_long; second_long = l.auto.chroma2 ∙ room.second_long })
    (rw (le_antisymm l.auto.y-end c.loop-y-test.false) at l.invariant)
