-- What is left to answer of `still_corner::mark_row`'s goals.
use mathlib.Core.Path.{◌≡◌, ◌∙◌}
use Prim.Native.Nat.{ℕ, ◌+◌, ◌-◌, ◌*◌, ◌<◌}
use native.Mathlib.Nat.{le_antisymm}
use native.Mathlib.Omega.{arith}
use lib.ListN.{length}
use Rattle.rules.specs.Reading.{after}
use Rattle.still_pass.proofs.Accepted.{pixel_in}
use Rattle.still_corner.proofs.Marks.{mark_is, row_marked, none_marked, column_is}
use Rattle.still_corner.proofs.mark_row.Goals as goal

pub loop-x-init : goal.loop-x-init
loop-x-init c = λ same h.
    let a = c.args in
    -- the row above is a row of the plane
    let up : c.saturating_sub-above.result < a.height = omega arith in
    let first = c.column_at-mid.ensures ∙ column_is same (a.width, a.height) a.still.now 0 _ a.y _ h c.requires.some up c.requires.row c.after-below.ensures.inside in
    (none_marked same (a.width, a.height) a.y a.still.now h, first, first)

pub bounds-still-k : goal.bounds-still-k
bounds-still-k c =
    let inside : c.loop-x.x < c.args.width = omega arith in
    omega (arith, c.place-k.ensures, pixel_in c.requires.room inside c.requires.row)

pub loop-x-preserved : goal.loop-x-preserved
loop-x-preserved c =
    let a = c.args in
    let size : ℕ × ℕ = (a.width, a.height) in
    let up : c.saturating_sub-above.result < a.height = omega arith in
    let x = c.loop-x.x in
    let inside : x < a.width = omega arith in
    let beside : x + 1 < a.width = omega arith in
    let next : x + 1 ≡ after x a.width = omega arith in
    let back : x + 1 - 1 ≡ x = omega arith in
    let in_list : a.y * a.width + x < length c.loop-x.still = omega (arith, pixel_in c.requires.room inside c.requires.row) in
    λ same h.
    let i = c.loop-x.invariant same h in
    let right = c.column_at-right.ensures ∙ column_is same size c.loop-x.still (x + 1) _ a.y _ i.0.holds beside up c.requires.row c.after-below.ensures.inside in
    let v = c.mark.ensures ∙ mark_is same size x a.y inside c.requires.row _ _ _ _ _ (x + 1) c.saturating_sub-above.ensures c.after-below.ensures.is next i.2 i.1 right in
    (rw c.place-k.ensures (row_marked same size x a.y inside c.requires.row _ _ _ i.0 in_list v), right, rw back i.1)

pub returns : goal.returns
returns c = λ same h.
    let a = c.args in
    let size : ℕ × ℕ = (a.width, a.height) in
    let last = a.width - 1 in
    let inside : last < a.width = omega arith in
    let next : last ≡ after last a.width = omega arith in
    let whole : last + 1 ≡ a.width = omega arith in
    let in_list : a.y * a.width + last < length c.loop-x.still = omega (arith, pixel_in c.requires.room inside c.requires.row) in
    let i = rw (le_antisymm c.loop-x.auto.x-end c.loop-x-test.false) at (c.loop-x.invariant same h) in
    let v = c.mark-2.ensures ∙ mark_is same size last a.y inside c.requires.row _ _ _ _ _ last c.saturating_sub-above.ensures c.after-below.ensures.is next i.2 i.1 i.1 in
    rw c.place-k-2.ensures (rw whole at (row_marked same size last a.y inside c.requires.row _ _ _ i.0 in_list v))
