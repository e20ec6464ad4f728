-- What is left to answer of `fit_keep::keep`'s goals.
use Rattle.fit_keep.proofs.Whole.{kept_whole}
use Rattle.fit_keep.proofs.keep.Goals as goal

pub returns : goal.returns
returns c =
    let blank = c.fill.ensures.after (λ y e. e) in
    kept_whole _ _ _ _ _ c.requires.sound c.requires.flagged _ _ _ (rw blank at c.keep_rows.ensures) c.reset.ensures
