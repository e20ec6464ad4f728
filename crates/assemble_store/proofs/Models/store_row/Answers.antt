-- What is left to answer of `assemble_store::Models::store_row`'s goals: the luma pixels of the row lie within the
-- slices.
use mathlib.Core.Path.{◌≡◌, ◌∙◌}
use Prim.Native.Nat.{◌*◌}
use native.Mathlib.Nat.{add-zero}
use native.Mathlib.Omega.{arith}
use Rattle.assemble_store.proofs.Rows.{pixels_small, band_in}
use Rattle.assemble_store.proofs.Models.store_row.Goals as goal

pub luma_run-requires : goal.luma_run-requires
luma_run-requires c =
    let m = c.args.self in
    let pixels : c.place-pixels.result ≡ m.sizes.width * m.sizes.height = c.place-pixels.ensures ∙ add-zero _ in
    let band : c.place-band.result ≡ m.sizes.ratio * m.sizes.width = c.place-band.ensures ∙ add-zero _ in
    let inside = band_in m.sizes m.ready.formed c.args.y c.place-band.result band c.requires.above in
    let few = pixels_small m.sizes m.ready.formed in
    rw pixels (record { up = omega arith; inside = inside; models_long = omega (arith, m.ready.models_long); luma_long = omega (arith, c.requires.room.luma_long) })
