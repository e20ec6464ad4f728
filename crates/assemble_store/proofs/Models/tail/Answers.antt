-- What is left to answer of `assemble_store::Models::tail`'s goals.
use mathlib.Core.Path.{sym, ◌∙◌}
use borrow.Author.Tests.{eq-eqb}
use mir.Syntax.{w16}
use mir.Facts.{to_z_pos}
use native.Mathlib.Omega.{arith}
use Rattle.assemble_store.specs.Entries.{tail_entry}
use Rattle.assemble_store.proofs.Chroma.{tail_is, covered}
use Rattle.assemble_store.proofs.Models.tail.Goals as goal

pub returns-then-plane-eq1 : goal.returns-then-plane-eq1
unfolding tail_entry
returns-then-plane-eq1 c = sym (simp (eq-eqb _ _ c.if-plane-eq1.true))

pub cell-requires : goal.cell-requires
cell-requires c =
    let m = c.args.self in
    rw (c.cells-across.ensures, c.cells-down.ensures) (covered m.sizes m.cover.now m.ready.formed m.ready.cover_long)

pub returns : goal.returns
returns c =
    let a = c.args in
    let m = a.self in
    let e = rw (c.cells-across.ensures, c.cells-down.ensures) at c.cell.ensures in
    rw c.from.ensures (
    to_z_pos w16 {n = c.cell.result} (omega arith)
    ∙ rw e (sym (tail_is m.cover.now (m.sizes.width, m.sizes.height) m.sizes.chroma_width a.plane a.x a.y c.if-plane-eq1.false c.requires)))
