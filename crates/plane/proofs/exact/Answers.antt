-- A quotient without a remainder is compared: the divisor is not 0.
use Rattle.std.proofs.Common.{◌*◌, mul_comm}
use Rattle.plane.proofs.Laws.{multiple, product}
use Rattle.plane.proofs.exact.Goals as goal

pub returns-in-Some : goal.returns-in-Some
returns-in-Some c =
    let a = c.args in
    rw (c.is_product.ensures, multiple c.is_multiple_of.result a.size a.many c.is_multiple_of.ensures, c.in-Some.ensures.1, mul_comm a.many (a.width * a.height))
    (product a.size (a.width * a.height) a.many c.in-Some.ensures.0)
