-- Which pixels both works write, and the scene at a pixel, filled. Assumes nothing.
use mathlib.Core.Path.{◌≡◌, refl, sym, ap, ◌∙◌}
use mathlib.Core.Bool.{Bool, true, false, not, cond}
use Prim.Native.Nat.{ℕ, ◌≤◌}
use lib.ListN.{get_or}
use lib.Ieee.{Float}
use Rattle.std.specs.Prelude.{Some, None}
use Rattle.std.specs.Bool.{then_some}
use Rattle.plane.specs.Done.{change}
use Rattle.rules.specs.declared.Model.{Model}
use Rattle.rules.specs.declared.Scene.TheVariants.{Lifted, Raw}
use Rattle.rules.specs.Forms.{Layer, Plane}
use Rattle.rules.specs.Literals.{0·0}
use Rattle.rules.specs.Float.{◌≼◌, float}
use Rattle.rules.specs.Model.{is_plain}
use Rattle.rules.specs.Reading.{gap, texel, at}
use Rattle.rules.specs.Scene.{value, lifted, filled, scene}
use Rattle.rules.specs.Peel.{layered}
use Rattle.layer_lent.specs.declared.Shape.{Shape}
use Rattle.layer_lent.specs.Lent.{lay, Held}
use Rattle.scene_whole.specs.Rings.{seen}
use Rattle.scene_whole.proofs.Around.{under_whole}
use Rattle.lift_pixel.specs.Works.{Bytes, rule_of}

-- ---- which are written, by the gap

pub near_writes : (l : Layer) (plane x y : ℕ) → (gap l plane x y ≼ 0·0) ≡ true → layered l plane x y ≡ not (is_plain (texel l plane x y))
unfolding layered
near_writes l plane x y t = rw t

pub far_writes : (l : Layer) (plane x y : ℕ) → (gap l plane x y ≼ 0·0) ≡ false → layered l plane x y ≡ false
unfolding layered
far_writes l plane x y t = rw t

-- ---- what is done to a pixel of a near cell

pub near_change : (byte : Bytes) (s : Shape) (held : Held) (x y old : ℕ) {plain : Bool} → (gap (lay s held) s.plane x y ≼ 0·0) ≡ true
    → is_plain (texel (lay s held) s.plane x y) ≡ plain → then_some (not plain) (byte x y old) ≡ change (rule_of byte s held) x y old
unfolding change
near_change byte s held x y old near is = sym (go _ (near_writes (lay s held) s.plane x y near ∙ ap not is))
  where
    go : {writes : Bool} (b : Bool) → writes ≡ b → cond writes (Some (byte x y old)) None ≡ then_some b (byte x y old)
    go true e = rw e refl
    go false e = rw e refl

-- ---- the scene at a pixel

module _ (l : Layer) (plane : ℕ) (raw : Plane) (small : (k : ℕ) → get_or raw.bytes k 0 ≤ 255) (x y : ℕ) (X : x ≤ 4096) (Y : y ≤ 4096)
    (m : Model) (is : m ≡ texel l plane x y) where
  pub scene-lifted : (v : Float) → lifted (at raw x y) m ≡ Lifted v → v ≡ value (scene l plane raw (float x) (float y) true)
  unfolding scene filled seen
  scene-lifted v e = sym (rw (under_whole l plane raw small x y X Y, ← is, e))

  pub scene_raw : (v : Float) → lifted (at raw x y) m ≡ Raw v → filled l plane raw (float x) (float y) (Raw v) ≡ scene l plane raw (float x) (float y) true
  unfolding scene seen
  scene_raw v e = sym (rw (under_whole l plane raw small x y X Y, ← is, e))
