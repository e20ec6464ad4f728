-- The least total of stored gains that is read as 0.2 or more.
use Rattle.std.specs.Prelude.{cond, ℕ, eqb}

-- of span² stored gains, in 4096ths
abbrev pub least_of : (span : ℕ) → ℕ
least_of span = cond (eqb span 1) 820 (cond (eqb span 2) 3277 13108)
