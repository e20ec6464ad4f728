-- "After the chain": the sums to which stats adds one pair.
use Rattle.std.specs.Prelude.{◌∷◌, ◌+◌, ◌*◌, ◌/◌, ◌%◌}
use Rattle.rules.specs.Words.{cond, List, [], ℕ, suc, eqb, get_or, Float, nan}
use Rattle.rules.specs.Literals.{0·0, 24·0}
use Rattle.rules.specs.Float.{◌⊕◌, ◌⊖◌, ◌⊗◌, ◌≺◌, float, abs}
use Rattle.rules.specs.Forms.{Plane, Motion, Part, tabulate, area, shrunk, leaves}
use Rattle.rules.specs.Calls.{StatsCall}
use Rattle.rules.specs.Refusals.{stats_refusal}
use Rattle.rules.specs.Reading.{at, sample, held_to}
use Rattle.rules.specs.Motion.{steps}

-- 1 where two samples are more than 24 apart
abbrev pub one_if_apart : (a b : Float) → ℕ
one_if_apart a b = cond (24·0 ≺ abs (a ⊖ b)) 1 0

-- "Terms per pixel are the Rust's six": of the bytes ia and ib and the moved samples pa and pb
unfoldable pub six_terms : (pb pa ib ia : Float) → List Float
six_terms pb pa ib ia =
    (pb ⊕ pa)
    ∷ (ib ⊕ ia)
    ∷ (pb ⊗ pb ⊕ pa ⊗ pa)
    ∷ (pb ⊗ ib ⊕ pa ⊗ ia)
    ∷ (ib ⊗ ib ⊕ ia ⊗ ia)
    ∷ float (one_if_apart pb ib + one_if_apart pa ia)
    ∷ []

-- the terms of a pair of planes at pixel (x, y)
unfoldable pub terms : (first second : Plane) → Motion → (size : ℕ × ℕ) → (ratio x y : ℕ) → List Float
terms first second m size ratio x y =
    let s = steps m ratio x y in
    let moved : Plane → Float → Float → Float = λ raw dx dy. sample raw (held_to (float x ⊕ dx) size.0) (held_to (float y ⊕ dy) size.1) size in
    six_terms (moved first s.fx s.fy) (moved second s.bx s.by) (at second x y) (at first x y)

-- sums, so `many` per pixel, with a pair's terms added; "with 0 pairs before, it starts from 0.0"
unfoldable pub added : (pairs many : ℕ) → (old : List Float) → (first second : Plane) → Motion → (size : ℕ × ℕ) → (ratio : ℕ) → List Float
added pairs many old first second m size ratio =
    let term : ℕ → ℕ → Float = λ pixel k. get_or (terms first second m size ratio (pixel % size.0) (pixel / size.0)) k nan in
    tabulate (many * area size) (λ i. cond (eqb pairs 0) 0·0 (get_or old i nan) ⊕ term (i / many) (i % many))

-- "Stats adds one pair to the sums"; "chroma keeps the first two" terms; `pairs` is one more, which the caller keeps
unfoldable pub stats_sums : StatsCall → Part
stats_sums c =
    let p = c.sums in
    let f = c.pair.first in
    let s = c.pair.second in
    let m = c.pair.motion in
    let chroma_size = shrunk c.size c.ratio in
    record {
      luma = added p.pairs 6 p.luma f.0 s.0 m c.size 1;
      chroma = (added p.pairs 2 p.chroma.0 f.1 s.1 m chroma_size c.ratio, added p.pairs 2 p.chroma.1 f.2 s.2 m chroma_size c.ratio);
      pairs = suc p.pairs;
    }

-- what it leaves in the sums
abbrev pub stats_leaves : StatsCall → Part
stats_leaves c = leaves (stats_refusal c) (stats_sums c) c.sums
