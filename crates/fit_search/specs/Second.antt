-- What strict searching falls back to, by itself.
use Rattle.std.specs.Prelude.{false, cond, ◌||◌, Float}
use Rattle.rules.specs.declared.Found.{Found}
use Rattle.rules.specs.declared.Found.TheVariants.{Nothing}
use Rattle.rules.specs.Forms.{Parts}
use Rattle.rules.specs.Window.{strictly_set, pick}

-- at a pixel of its own, 0
unfoldable pub second_of : Parts → (limit evidence : Float) → Found
second_of parts limit evidence =
    cond (strictly_set 0 limit parts.previous || strictly_set 0 limit parts.next) (pick parts 0 limit evidence false) Nothing
