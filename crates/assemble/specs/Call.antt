-- What assemble answers and leaves.
use Rattle.std.specs.Prelude.{◌≡◌, List, ℕ, ◌/◌, ℤ, Result}
use Rattle.rules.specs.declared.Refusal.{Refusal}
use Rattle.rules.specs.Calls.{AssembleCall}
use Rattle.rules.specs.Refusals.{numbered, assemble_refusal}
use Rattle.rules.specs.Assembly.{assemble_leaves}
use Rattle.assemble_offsets.specs.declared.Sizes.{Sizes}
use Rattle.assemble_store.specs.Entries.{Stored}

-- the sizes of both kinds of plane
abbrev pub sizes_of : (width height ratio : ℕ) → Sizes
sizes_of width height ratio =
    record { width = width; height = height; ratio = ratio; chroma_width = width / ratio; chroma_height = height / ratio }

-- what assemble answers and leaves
pub record AssembleAnswered (c : AssembleCall) (luma first second : List ℤ) (r : Result Unit Refusal) : Type 0 where
  pub answer : numbered r ≡ assemble_refusal c
  pub slices : Stored (assemble_leaves c) luma first second
