-- A call of stats that is not refused can be run.
-- Assumes nothing.
use mathlib.Core.Path.{◌≡◌, refl}
use mathlib.Core.List.{List}
use mathlib.Core.Bool.{Bool, true, ◌&&◌}
use Prim.Native.Nat.{ℕ, ◌*◌}
use native.Mathlib.Omega.{arith}
use lib.ListN.{length}
use lib.Ieee.{Float}
use Rattle.std.proofs.lemmas.Bool.{and_parts}
use Rattle.rules.specs.Forms.{each, area, shrunk}
use Rattle.rules.specs.Calls.{StatsCall}
use Rattle.rules.specs.Domain.{sums_length, chroma_sums_length, is_pitch, is_plane, motion_lengths, motion_numbers}
use Rattle.rules.specs.Refusals.{stats_refusal}
use Rattle.laws.proofs.Accepted.{row_right, Side, sizes_in, ratio_in, exact_in}
use Rattle.sample.specs.declared.View.{View}
use Rattle.sample.specs.Points.{plane_by, PlaneFits}
use Rattle.motion.specs.Moves.{Moves}
use Rattle.stats_refuse.specs.declared.Pair.{Pair}
use Rattle.stats_refuse.specs.declared.Numbers.{Numbers}
use Rattle.stats_refuse.specs.Call.{stats_by}
use Rattle.motion_limits.proofs.Accepted.{plane_in, moves_in}

-- each of two, or of four
two : (a b : Bool) → (a && (b && true)) ≡ true → (a ≡ true) × (b ≡ true)
two a b e = let t = and_parts a (b && true) e in (t.0, (and_parts b true t.1).0)

four : (a b c d : Bool) → (a && (b && (c && (d && true)))) ≡ true → ((a ≡ true) × (b ≡ true)) × ((c ≡ true) × (d ≡ true))
four a b c d e =
    let t = and_parts a (b && (c && (d && true))) e in
    let u = and_parts b (c && (d && true)) t.1 in
    ((t.0, u.0), two c d u.1)

module _ (luma chroma1 chroma2 : List Float) (p : Pair) (n : Numbers) where
  abbrev call : StatsCall
  call = stats_by luma chroma1 chroma2 p n

  abbrev size : ℕ × ℕ
  size = (n.width, n.height)

  abbrev chroma_size : ℕ × ℕ
  chroma_size = shrunk size n.ratio

  -- a plane of each frame fits
  abbrev Fit : (first second : View) → (size : ℕ × ℕ) → Type 0
  Fit first second size = PlaneFits first.bytes.now first.pitch size.0 size.1 × PlaneFits second.bytes.now second.pitch size.0 size.1

  -- what the three passes ask
  pub record Runs : Type 0 where
    pub luma_fits : Fit p.first.luma p.second.luma size
    pub first_fits : Fit p.first.chroma1 p.second.chroma1 chroma_size
    pub second_fits : Fit p.first.chroma2 p.second.chroma2 chroma_size
    pub luma_moves : Moves p.fields p.grid 1
    pub chroma_moves : Moves p.fields p.grid n.ratio
    pub luma_long : length luma ≡ 6 * area size
    pub first_long : length chroma1 ≡ 2 * area chroma_size
    pub second_long : length chroma2 ≡ 2 * area chroma_size

  fit : (first second : View) (size : ℕ × ℕ) → Side size.0 → Side size.1
      → (is_pitch first.pitch size.0 ≡ true) × (is_pitch second.pitch size.0 ≡ true)
      → (is_plane (plane_by first) size ≡ true) × (is_plane (plane_by second) size ≡ true)
      → Fit first second size
  fit first second size wide tall p l =
      (plane_in first.bytes.now first.pitch size.0 size.1 wide tall p.0 l.0, plane_in second.bytes.now second.pitch size.0 size.1 wide tall p.1 l.1)

  pub runs : stats_refusal call ≡ 0 → Runs
  unfolding stats_refusal each
  runs e =
      let s = call in
      let m = s.pair.motion in
      let ok = row_right _ refl e in
      let t : (motion_lengths m ≡ true) × (motion_numbers m ≡ true) = (ok 7 _ refl, ok 8 _ refl) in
      let f = s.pair.first in
      let z = s.pair.second in
      let sides = sizes_in size (ok 0 _ refl) in
      let part = ratio_in size s.ratio sides (ok 1 _ refl) in
      let pitched = two (is_pitch f.0.pitch size.0) (is_pitch z.0.pitch size.0) (ok 2 _ refl) in
      let long = two (is_plane f.0 size) (is_plane z.0 size) (ok 4 _ refl) in
      let q = four (is_pitch f.1.pitch chroma_size.0) (is_pitch f.2.pitch chroma_size.0) (is_pitch z.1.pitch chroma_size.0) (is_pitch z.2.pitch chroma_size.0)
      (ok 3 _ refl) in
      let k = four (is_plane f.1 chroma_size) (is_plane f.2 chroma_size) (is_plane z.1 chroma_size) (is_plane z.2 chroma_size) (ok 5 _ refl) in
      let exact = exact_in s.sums.luma s.sums.chroma (sums_length size, chroma_sums_length size s.ratio) (ok 6 _ refl) in
      record {
        luma_fits = fit p.first.luma p.second.luma size sides.0 sides.1 pitched long;
        first_fits = fit p.first.chroma1 p.second.chroma1 chroma_size part.across part.down (q.0.0, q.1.0) (k.0.0, k.1.0);
        second_fits = fit p.first.chroma2 p.second.chroma2 chroma_size part.across part.down (q.0.1, q.1.1) (k.0.1, k.1.1);
        luma_moves = moves_in p.fields p.grid 1 (omega arith) t.0 t.1;
        chroma_moves = moves_in p.fields p.grid s.ratio part.few.1 t.0 t.1;
        luma_long = exact.0;
        first_long = exact.1;
        second_long = exact.2;
      }
