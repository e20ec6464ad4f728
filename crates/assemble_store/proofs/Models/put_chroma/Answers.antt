-- What is left to answer of `assemble_store::Models::put_chroma`'s goals.
use mathlib.Core.Path.{◌∙◌}
use native.Mathlib.Nat.{add-zero}
use native.Mathlib.Omega.{arith}
use mir.Syntax.{w16}
use Rattle.laws.proofs.Signed.{back}
use Rattle.assemble_offsets.proofs.Signed.{total_back}
use Rattle.assemble_store.specs.Entries.{models_of}
use Rattle.assemble_store.proofs.Chroma.{point_in, first_is, second_is}
use Rattle.assemble_store.proofs.Models.put_chroma.Goals as goal

pub put_pair-requires : goal.put_pair-requires
put_pair-requires c =
    let a = c.args in
    omega (
      arith,
      c.requires.long,
      c.place-points.ensures,
      c.place-k.ensures,
      point_in a.self.sizes a.x a.y c.requires.block.left c.requires.block.above,
    )

pub returns : goal.returns
returns c =
    let a = c.args in
    let g = a.self.sizes in
    let b = c.requires.block in
    let cover = a.self.cover.now in
    let models = models_of a.self.floats.now g in
    c.put_pair.ensures
    ∙ rw (
      c.stored_total-offset.ensures,
      total_back _,
      back w16 c.tail-cell.result c.tail-cell.type_inv,
      c.tail-cell.ensures,
      c.place-k.ensures,
      c.place-points.ensures,
      add-zero,
    )
    (rw (first_is g a.x a.y b.left b.above models cover a.plane, second_is g a.x a.y b.left b.above models cover a.plane))
