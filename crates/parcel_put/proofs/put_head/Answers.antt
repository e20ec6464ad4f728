-- What is left of `parcel_put::put_head`: the record, put part by part.
use Rattle.parcel_put.proofs.Records.{head_put}
use Rattle.parcel_put.proofs.put_head.Goals as goal

pub returns : goal.returns
returns c = head_put (c.args.width, c.args.height) c.args.ratio c.put_start.ensures c.put.ensures c.put-2.ensures c.put-3.ensures
