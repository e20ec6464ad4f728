-- Three parts as they are lent.
use Rattle.rules.specs.Forms.{Parts}
use Rattle.calls.specs.Lent.{part_of, parts_of}
use Rattle.fit_window.specs.declared.Lent.{Lent}

-- three parts of three planes each
abbrev pub parts_lent : Lent → Parts
parts_lent l =
    parts_of
    (part_of l.luma.previous.now l.chroma1.previous.now l.chroma2.previous.now l.counts.previous)
    (part_of l.luma.own.now l.chroma1.own.now l.chroma2.own.now l.counts.own)
    (part_of l.luma.next.now l.chroma1.next.now l.chroma2.next.now l.counts.next)
