-- `assemble_store::put_luma` meets its contract. Assumes nothing.
use mathlib.Core.Path.{◌∙◌}
use Rattle.assemble_offsets.proofs.Signed.{stored_back}
use Rattle.assemble_store.proofs.Luma.{gain_is, offset_is}
use Rattle.assemble_store.proofs.put_luma.Goals as goal

pub returns : goal.returns
returns c =
    let a = c.args in
    c.put_pair.ensures
    ∙ rw (
      c.stored_gain-gain.ensures,
      c.stored_offset-offset.ensures,
      stored_back _ _,
      stored_back _ _,
      gain_is a.models.now a.pixels a.at c.requires.inside,
      offset_is a.models.now a.pixels a.at c.requires.inside,
    )
