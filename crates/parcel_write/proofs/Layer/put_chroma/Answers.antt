-- What is left of `parcel_write::Layer::put_chroma`: the cells lie within their slice.
use Rattle.std.proofs.Common.{◌∙◌, arith}
use Rattle.parcel_write.proofs.Fits.{cells_fit}
use Rattle.parcel_write.proofs.Layer.put_chroma.Goals as goal

pub put_record-requires : goal.put_record-requires
put_record-requires c =
    let at = c.requires.place in
    let next = c.put_record-after.ensures.behind in
    let last = c.put_record-after-2.ensures.behind in
    let same = c.put_record-after-2.ensures.done.long ∙ c.put_record-after.ensures.done.long in
    let layer = c.args.self in
    cells_fit layer.shape layer.numbers layer.fits _ _ c.divided.ensures c.divided-rows.ensures _ (same ∙ c.requires.long) _ _ _
    (omega arith) c.cells.ensures c.cells-2.ensures
