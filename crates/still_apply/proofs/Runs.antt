-- A call of apply that is not refused can be run, by the steps of its mask. Assumes nothing.
use mathlib.Core.Path.{◌≡◌, refl}
use mathlib.Core.List.{List, [], ◌∷◌}
use Prim.Native.Nat.{ℕ, ◌*◌}
use lib.Dec.{ltb}
use lib.ListN.{get_or}
use Rattle.std.specs.Prelude.{Float}
use Rattle.rules.specs.Float.{float, mix, pixel}
use Rattle.rules.specs.Forms.{Frames, scan_row, scan}
use Rattle.rules.specs.Refusals.{apply_refusal}
use Rattle.rules.specs.Still.{byte_sum, apply_rule}
use Rattle.laws.proofs.Accepted.{row_right}
use Rattle.calls.specs.Lent.{plane_of, mask_of, frames_of, apply_call}
use Rattle.still_pass.specs.Pass.{PlaneIn}
use Rattle.still_pass.proofs.Accepted.{first_in}
use Rattle.still_cells.specs.declared.Numbers.{Numbers}
use Rattle.still_cells.specs.Cells.{row_sum, sum_of, steps_of, PlaneCells}
use Rattle.still_cells.proofs.Covered.{plane_cells}
use Rattle.still_rows.specs.Rows.{ruled}

module _ (output first second mask : List ℕ) (time : Float) (n : Numbers) where
  -- the frames of a call
  abbrev pub lent : Frames
  lent = frames_of (plane_of first n.pitch) (plane_of second n.pitch) time

  pub rule_is : apply_rule lent (mask_of mask n.mask_width) (n.width, n.height)
      ≡ ruled (λ sum cells. ltb (4 * cells) (10 * sum)) (λ k old sum cells. pixel (mix (float (get_or first k 0)) (float (get_or second k 0)) time)) mask n
      (steps_of mask n).across (steps_of mask n).down
  unfolding apply_rule byte_sum ruled sum_of row_sum scan scan_row
  rule_is = refl

  pub runs : apply_refusal (apply_call (plane_of output n.output_pitch) lent n.width n.height (mask_of mask n.mask_width)) ≡ 0
      → PlaneIn output n.output_pitch (n.width, n.height)
      × PlaneCells mask n.mask_width (steps_of mask n).across (steps_of mask n).down (n.width, n.height)
      × PlaneIn first n.pitch (n.width, n.height)
      × PlaneIn second n.pitch (n.width, n.height)
  unfolding apply_refusal
  runs e =
      let size : ℕ × ℕ = (n.width, n.height) in
      let ok = row_right _ refl e in
      let p = first_in (plane_of output n.output_pitch) (lent.first ∷ lent.second ∷ []) size (ok 0 _ refl) (ok 2 _ refl) (ok 3 _ refl) in
      let q = first_in lent.first (lent.second ∷ []) size (ok 0 _ refl) p.1 p.2 in
      let r = first_in lent.second [] size (ok 0 _ refl) q.1 q.2 in
      (p.0, plane_cells (mask_of mask n.mask_width) size (ok 0 _ refl) (ok 1 _ refl), q.0, r.0)
