-- `motion_limits::motion_numbers` meets its contract. Assumes nothing.
use Rattle.std.proofs.Common.{rules}
use Rattle.motion_limits.proofs.motion_numbers.Goals as goal

pub returns : goal.returns
returns c =
    rw (c.sizes.ensures, c.spans.ensures, c.spans-2.ensures, c.spans-3.ensures, c.spans-4.ensures, c.pelled.ensures) (search rules)
