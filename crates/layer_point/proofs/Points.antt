-- The model at a point, by the columns and rows around it. Assumes nothing.
use mathlib.Core.Path.{◌≡◌, ap}
use mathlib.Core.Bool.{Bool, true, false, ◌&&◌}
use Prim.Native.Nat.{ℕ, ◌/◌}
use lib.Ieee.{Float, eq}
use Rattle.rules.specs.declared.Model.{Model}
use Rattle.rules.specs.declared.Taps.{Taps}
use Rattle.rules.specs.Forms.{Plane, Layer, plane_size}
use Rattle.rules.specs.Literals.{0·0}
use Rattle.rules.specs.Reading.{texel, mix_models, mixed_model, model_at, sample}
use Rattle.sample.specs.Points.{around, sampled_row, sampled_at}
use Rattle.layer_lent.specs.declared.Plan.{Plan}
use Rattle.layer_lent.specs.Lent.{ratio_of, Planned}
use Rattle.layer_point.specs.Points.{row_of, point_of}

-- ---- whatever the models of the pixels are

module _ (t : (x y : ℕ) → Model) (across down : Taps) (b : Bool) (e : b ≡ (eq across.share 0·0 && eq down.share 0·0)) where
  -- at a whole point, and elsewhere
  pub whole_is : b ≡ true → t across.first down.first ≡ point_of t across down
  unfolding point_of
  whole_is h = rw (← e, h)

  pub mixed_is : b ≡ false → mix_models (row_of t across down.first) (row_of t across down.second) down.share ≡ point_of t across down
  unfolding point_of
  mixed_is h = rw (← e, h)

-- the rules' model and sample are those at the columns and rows around the point
module _ (p : Plan) (l : Layer) (plane : ℕ) (wide : p.across ≡ (plane_size l plane).0) (tall : p.down ≡ (plane_size l plane).1) (x y : Float) where
  pub model_is : point_of (texel l plane) (around x p.across) (around y p.down) ≡ model_at l plane x y
  unfolding point_of row_of model_at mixed_model
  model_is = rw (wide, tall)

  pub sample_is : (raw : Plane) → sampled_at raw (around x p.across) (around y p.down) ≡ sample raw x y (plane_size l plane)
  unfolding sampled_row sampled_at sample
  sample_is raw = rw (wide, tall)

-- a plan's sizes are the plane's
pub across_is : (p : Plan) → Planned p → p.across ≡ p.shape.width / ratio_of p.shape
across_is p h = ap (λ (q : Plan). q.across) h.is

pub down_is : (p : Plan) → Planned p → p.down ≡ p.shape.height / ratio_of p.shape
down_is p h = ap (λ (q : Plan). q.down) h.is
