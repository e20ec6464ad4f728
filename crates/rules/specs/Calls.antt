-- What each call is lent: numbers, and what its slices hold before. (`empty` is lent a layer, and nothing else.)
use Rattle.rules.specs.Words.{Bool, List, ℕ, ℤ, Float, Walk}
use Rattle.rules.specs.Forms.{Plane, Motion, Pair, Slot, Part, Parts, Fit, Layer, Frames, Mask}

-- sums, with the pairs summed already, to which one pair is added
pub record StatsCall : Type 0 where
  pub sums : Part
  pub size : ℕ × ℕ
  pub ratio : ℕ
  pub pair : Pair

-- `models`, `kept` and `cover` are the work slices, `output` what is stored
pub record FitCall : Type 0 where
  pub parts : Parts
  pub size : ℕ × ℕ
  pub limit : Float
  pub evidence : Float
  pub strict : Bool
  pub ratio : ℕ
  pub models : List Float
  pub kept : List ℕ
  pub cover : List ℕ
  pub output : Fit

-- models and a cover, as they stand, and `output` what is stored
pub record AssembleCall : Type 0 where
  pub size : ℕ × ℕ
  pub ratio : ℕ
  pub models : List Float
  pub cover : List ℕ
  pub output : Fit

-- cells, in rows of this width
pub record DistancesCall : Type 0 where
  pub cells : List ℕ
  pub width : ℕ

-- `output` is written, `raw` is looked at
pub record PeelCall : Type 0 where
  pub layer : Layer
  pub plane : ℕ
  pub output : Plane
  pub raw : Plane

-- one plane of each frame
pub record UnpeelCall : Type 0 where
  pub layer : Layer
  pub plane : ℕ
  pub output : Plane
  pub frames : Frames

-- the same, and the motion between the frames
pub record RenderCall : Type 0 where
  pub layer : Layer
  pub plane : ℕ
  pub output : Plane
  pub frames : Frames
  pub motion : Motion
  pub algo : ℤ

-- "A reader and a writer are needed" (02): a layer, and `parcel` what its records are written into
pub record ParcelWriteCall : Type 0 where
  pub layer : Layer
  pub parcel : List ℕ

-- a parcel as it came, and `output` what is filled
pub record ParcelReadCall : Type 0 where
  pub parcel : List ℕ
  pub output : Fit

-- "They give .. each pair with its own number from 0" (02): a walk as the call before left it, the `slots` that hold
-- the sums of its "three parts", and a pair
pub record WalkPairCall : Type 0 where
  pub walk : Walk
  pub slots : List Slot
  pub number : ℕ
  pub pair : Pair

-- "Due layers are taken .. one by each call with fit's settings" (02): the same, and what fit is lent besides
pub record WalkLayerCall : Type 0 where
  pub walk : Walk
  pub slots : List Slot
  pub limit : Float
  pub evidence : Float
  pub strict : Bool
  pub models : List Float
  pub kept : List ℕ
  pub cover : List ℕ
  pub output : Fit

-- "the three settings of `mask`"
pub record Settings : Type 0 where
  pub limit : Float
  pub edge : Float
  pub tolerance : Float

-- the sizes of mask, apply and hold are the plane's own; mask's two planes are lent with one pitch
pub record MaskCall : Type 0 where
  pub first : Plane
  pub second : Plane
  pub size : ℕ × ℕ
  pub settings : Settings
  pub still : List ℕ

-- apply's two planes are lent with one pitch too
pub record ApplyCall : Type 0 where
  pub output : Plane
  pub frames : Frames
  pub size : ℕ × ℕ
  pub mask : Mask

-- `held` is the plane whose bytes are kept
pub record HoldCall : Type 0 where
  pub output : Plane
  pub held : Plane
  pub size : ℕ × ℕ
  pub mask : Mask
