-- What is left of `parcel_records::find`: a record more, one that is cut short, and the end.
use Rattle.parcel_records.proofs.Walk.{find_other, find_one, find_cut, found}
use Rattle.parcel_records.proofs.find.Goals as goal
use Rattle.parcel_records.proofs.find.Goals.{then-piece-kind, else-piece-kind}

pub loop-piece-preserved-in-Ok : goal.loop-piece-preserved-in-Ok
loop-piece-preserved-in-Ok c =
    let l = c.loop-piece in
    let begins = rw c.in-Ok.is at c.in-Some.ensures.steps in
    elim c.if-piece-kind.branch [
      | then-piece-kind w ↦ rw (w.place-is, w.noted.ensures) (find_one _ _ _ _ c.in-Ok.piece _ begins l.place w.if-piece-kind.true l.invariant)
      | else-piece-kind w ↦ rw w.place-is (find_other _ _ _ _ c.in-Ok.piece _ begins l.place w.if-piece-kind.false l.invariant)
    ]

pub loop-piece-preserved : goal.loop-piece-preserved
loop-piece-preserved c =
    let cut = rw c.in-Err.is at c.in-Some.ensures.steps in
    find_cut _ _ _ _ c.loop-piece.place _ cut.0 cut.3 c.loop-piece.invariant

pub returns : goal.returns
returns c = found _ _ _ _ c.loop-piece.place c.in-None.ensures.steps c.loop-piece.invariant
