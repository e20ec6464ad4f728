-- `layer_numbers::chroma_offset` meets its contract. Assumes nothing.
use Rattle.layer_numbers.proofs.Places.{chroma_in}
use Rattle.layer_numbers.proofs.chroma_offset.Goals as goal

pub entry-requires-in_default-clause-inside : goal.entry-requires-in_default-clause-inside
entry-requires-in_default-clause-inside g c =
    let s = c.args.sheet in
    rw c.place-k.ensures (chroma_in s.plan _ _ s.sound.planned c.requires.inside _ s.sound.second_long c.requires.chroma)
