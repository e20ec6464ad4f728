-- The laws of a row that is gone through part by part, for any rule. Assumes nothing.
use mathlib.Core.Path.{◌≡◌}
use mathlib.Core.List.{List}
use Prim.Native.Nat.{ℕ, ◌+◌, ◌-◌, ◌*◌, ◌≤◌, ◌<◌}
use native.Mathlib.Omega.{arith}
use lib.ListN.{length, get_or}
use Rattle.rules.specs.Forms.{Rule}
use Rattle.std.specs.Prelude.{Option}
use Rattle.plane.specs.Done.{change, Stamped, RowDone}
use Rattle.plane.proofs.Laws.{row_none}
use Rattle.layer_lent.specs.declared.Plan.{Plan}
use Rattle.lift_rows.specs.Rows.{RunAsks, RowAsks, RowOn}
use Rattle.lift_rows.proofs.Cells.{run_none, run_more}

-- one pixel
pub run_one : {rule : Rule} {pitch y x : ℕ} {bytes after : List ℕ} {n r : ℕ} {d : Option ℕ} → d ≡ change rule x y (get_or bytes (y * pitch + x) 0)
    → Stamped bytes (y * pitch + x) d n after r → RowOn rule pitch y x (x + 1) n bytes after r
run_one e s = run_more (omega arith) (run_none _ _ _ _ _ _) e s

-- a part after another
pub run_join : {rule : Rule} {pitch y from x to count n r : ℕ} {before bytes after : List ℕ} → from ≤ x → x ≤ to
    → RowOn rule pitch y from x count before bytes n → RowOn rule pitch y x to n bytes after r → RowOn rule pitch y from to count before after r
run_join low high a b = record { on = λ first start done. b.on first start (a.on first start done); few = omega (arith, a.few, b.few) }

-- all of a row
pub run_whole : {rule : Rule} {pitch y to count r : ℕ} {before after : List ℕ} → RowOn rule pitch y 0 to count before after r → RowDone rule pitch y to count before after r
run_whole {rule} {pitch} {y} {count = count} {before = before} a = a.on before count (row_none rule pitch y count before)

-- a part of a part, or of a row, after some of it is done
module _ (now : List ℕ) (x end n : ℕ) (ahead : x < end) where
  pub part_asks : {p : Plan} {output : List ℕ} {y from to count : ℕ} → RunAsks p output (record { y = y; from = from; to = to; count = count }) → from ≤ x → end ≤ to
      → length now ≡ length output → n ≤ count + (x - from) → RunAsks p now (record { y = y; from = x; to = end; count = n })
  part_asks h low high same few =
      let room = h.room in
      record { above = h.above; narrow = h.narrow; ahead = omega arith; within = omega (arith, h.within); room = omega arith; few = omega (arith, h.few) }

  pub row_asks : {p : Plan} {output : List ℕ} {y count : ℕ} → RowAsks p output y count → end ≤ p.across → p.across ≤ 4096
      → length now ≡ length output → n ≤ count + (x - 0) → RunAsks p now (record { y = y; from = x; to = end; count = n })
  row_asks h high small same few =
      let room = h.room in
      record { above = h.above; narrow = h.narrow; ahead = omega arith; within = high; room = omega arith; few = omega (arith, h.few) }
