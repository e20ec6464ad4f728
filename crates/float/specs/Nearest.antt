-- For the proofs of `pixel` and `fixed`: what a finite float is rounded to before it is held.
use Rattle.std.specs.Prelude.{ℕ, Float}
use Rattle.std.specs.Float.{nan, inf, fin}
use Rattle.rules.specs.Float.{nearest}

-- for a finite x, what `rounded` holds
unfoldable pub size_of : Float → ℕ
size_of nan = 0
size_of (inf s) = 0
size_of (fin s m e) = nearest m e
