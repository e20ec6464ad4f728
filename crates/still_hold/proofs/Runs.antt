-- A call of hold that is not refused can be run, by the steps of its mask. Assumes nothing.
use mathlib.Core.Path.{◌≡◌, refl}
use mathlib.Core.List.{List, [], ◌∷◌}
use Prim.Native.Nat.{ℕ, ◌*◌}
use lib.Dec.{ltb}
use lib.ListN.{get_or}
use Rattle.rules.specs.Forms.{scan_row, scan}
use Rattle.rules.specs.Refusals.{hold_refusal}
use Rattle.rules.specs.Still.{byte_sum, hold_rule, weighed}
use Rattle.laws.proofs.Accepted.{row_right}
use Rattle.calls.specs.Lent.{plane_of, mask_of, hold_call}
use Rattle.still_pass.specs.Pass.{PlaneIn}
use Rattle.still_pass.proofs.Accepted.{first_in}
use Rattle.still_cells.specs.declared.Numbers.{Numbers}
use Rattle.still_cells.specs.Cells.{row_sum, sum_of, steps_of, PlaneCells}
use Rattle.still_cells.proofs.Covered.{plane_cells}
use Rattle.still_rows.specs.Rows.{ruled}

module _ (output held mask : List ℕ) (n : Numbers) where
  pub rule_is : hold_rule (plane_of held n.pitch) (mask_of mask n.mask_width) (n.width, n.height)
      ≡ ruled (λ sum cells. ltb sum (255 * cells)) (λ k old sum cells. weighed (get_or held k 0) old sum (255 * cells)) mask n (steps_of mask n).across (steps_of mask n).down
  unfolding hold_rule byte_sum ruled sum_of row_sum scan scan_row
  rule_is = refl

  pub runs : hold_refusal (hold_call (plane_of output n.output_pitch) (plane_of held n.pitch) n.width n.height (mask_of mask n.mask_width)) ≡ 0
      → PlaneIn output n.output_pitch (n.width, n.height)
      × PlaneCells mask n.mask_width (steps_of mask n).across (steps_of mask n).down (n.width, n.height)
      × PlaneIn held n.pitch (n.width, n.height)
  unfolding hold_refusal
  runs e =
      let size : ℕ × ℕ = (n.width, n.height) in
      let ok = row_right _ refl e in
      let o = first_in (plane_of output n.output_pitch) (plane_of held n.pitch ∷ []) size (ok 0 _ refl) (ok 2 _ refl) (ok 3 _ refl) in
      let h = first_in (plane_of held n.pitch) [] size (ok 0 _ refl) o.1 o.2 in
      (o.0, plane_cells (mask_of mask n.mask_width) size (ok 0 _ refl) (ok 1 _ refl), h.0)
