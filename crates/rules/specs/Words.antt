-- The words of antt's libraries, and the types of src/lib.rt, that the rules are written in.
pub use Rattle.std.specs.Prelude.{Bool, true, false, cond, not, List, [], ℕ, zero, suc, leb, ltb, eqb, ℤ, pos, negsuc, neg_ℤ, length, get_or, set, take, drop, Float}
pub use Rattle.std.proofs.Math.IntN.{sub_ℕ}
pub use Rattle.std.specs.Int.Signed.{le_z, lt_z}
pub use Rattle.std.specs.Float.{nan, inf, fin, binary32}
pub use Rattle.std.specs.Float.Ieee.{up, down}
unfoldable pub use Rattle.std.specs.Float.Ieee.{of_bits, of_int, to_unsigned, is_nan}
pub use Rattle.rules.specs.Answers.{Answer}
pub use Rattle.rules.specs.declared.Best.{Best}
pub use Rattle.rules.specs.declared.Found.{Found}
pub use Rattle.rules.specs.declared.Found.TheVariants.{At, Nothing}
pub use Rattle.rules.specs.declared.Gain.{Gain}
pub use Rattle.rules.specs.declared.Model.{Model}
pub use Rattle.rules.specs.declared.Moved.{Moved}
pub use Rattle.rules.specs.declared.Offset.{Offset}
pub use Rattle.rules.specs.Answers.{Reply}
pub use Rattle.rules.specs.declared.Ring.{Ring}
pub use Rattle.rules.specs.declared.Scene.{Scene}
pub use Rattle.rules.specs.declared.Scene.TheVariants.{Lifted, Raw}
pub use Rattle.rules.specs.declared.Sizes.{Sizes}
pub use Rattle.rules.specs.declared.Spread.{Spread}
pub use Rattle.rules.specs.declared.Steps.{Steps}
pub use Rattle.rules.specs.declared.Taps.{Taps}
pub use Rattle.rules.specs.declared.Trial.{Trial}
pub use Rattle.rules.specs.declared.Trial.TheVariants.{All, PreviousOwn, OwnNext}
pub use Rattle.rules.specs.declared.Walk.{Walk}
pub use Rattle.rules.specs.declared.Walked.{Walked}
