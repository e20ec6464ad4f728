-- The cells of a pixel of the plane lie within the mask that covers it.
use Rattle.still_cells.proofs.Places.{pixel_cells}
use Rattle.still_rows.proofs.Job.row.Goals as goal

pub byte_sum-sum-requires : goal.byte_sum-sum-requires
byte_sum-sum-requires g c = pixel_cells c.args.self.now.cells c.loop-x-test.true c.requires.row
