-- A pixel itself: both frames there, and what becomes of its own bytes. Assumes nothing.
use mathlib.Core.Path.{◌≡◌, sym}
use mathlib.Core.Bool.{Bool, true, false}
use Prim.Native.Nat.{ℕ, ◌≤◌}
use lib.ListN.{get_or}
use lib.Ieee.{Float}
use Rattle.rules.specs.declared.Model.{Model}
use Rattle.rules.specs.Forms.{Layer, Frames}
use Rattle.rules.specs.Float.{◌⊕◌, ◌⊗◌, mix}
use Rattle.rules.specs.Reading.{texel, at}
use Rattle.rules.specs.Scene.{under, scene}
use Rattle.rules.specs.Render.{base, composed}
use Rattle.laws.proofs.Points.{model_whole}
use Rattle.scene_whole.proofs.Points.{sample_whole}
use Rattle.render_choice.specs.Kept.{is_kept}
use Rattle.render_pixel.specs.Shown.{base_by}

-- at a pixel the model is its texel and the sample its byte
pub base_is : (l : Layer) (plane : ℕ) (f : Frames) (x y : ℕ) → x ≤ 4096 → y ≤ 4096 → ((k : ℕ) → get_or f.first.bytes k 0 ≤ 255)
    → ((k : ℕ) → get_or f.second.bytes k 0 ≤ 255)
    → base_by (texel l plane x y) (at f.first x y) (at f.second x y) f.time ≡ base l plane f x y
unfolding base scene under
base_is l plane f x y X Y first second =
    rw (model_whole l plane x y X Y, sample_whole f.first x y _ X Y first, sample_whole f.second x y _ X Y second)

-- own bytes, or the scene with the layer on it
module _ (m : Model) (layered : Bool) (first second time scene : Float) where
  pub kept_is : is_kept m layered first second ≡ true → mix first second time ≡ composed m layered first second time scene
  unfolding composed
  kept_is t = sym (simp t)

  pub laid_is : is_kept m layered first second ≡ false → m.gain ⊗ scene ⊕ m.offset ≡ composed m layered first second time scene
  unfolding composed
  laid_is t = sym (simp t)
