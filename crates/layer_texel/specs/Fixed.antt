-- What is given beside a plan, so that it can be a constant.
use Rattle.std.specs.Prelude.{◌≡◌, Bool, ℕ, eqb}
use Rattle.layer_lent.specs.declared.Plan.{Plan}

-- whether the plane is luma, and its span
pub record Fixed (p : Plan) (luma : Bool) (span : ℕ) : Type 0 where
  pub luma_is : eqb p.shape.plane 0 ≡ luma
  pub span_is : p.span ≡ span
