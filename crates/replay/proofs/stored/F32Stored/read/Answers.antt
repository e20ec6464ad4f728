-- `replay::stored::F32Stored::read`: bits that are not above infinity's are no NaN's.
use Rattle.std.proofs.Common.{rules}
use Rattle.std.proofs.lemmas.Float.{not_nan_f32_bits}
use Rattle.replay.proofs.stored.F32Stored.read.Goals as goal

pub float_from_bits-result : goal.float_from_bits-result
float_from_bits-result c = not_nan_f32_bits _ (search rules)
