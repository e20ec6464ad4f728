-- Two frames over a sheet, as the rules' layer and frames.
use Rattle.rules.specs.Forms.{Layer, Frames as Pair}
use Rattle.calls.specs.Lent.{plane_of, frames_of as pair_of}
use Rattle.layer_lent.specs.declared.Lent.{Ghosts}
use Rattle.layer_lent.specs.declared.Plan.{Plan}
use Rattle.layer_lent.specs.Lent.{lay}
use Rattle.render_pixel.specs.declared.Frames.{Frames}

-- the plan and the layer of the sheet
abbrev pub plan_of : {X : Type 0} {L : Ghosts X} → Frames X L → Plan
plan_of f = f.first.sheet.plan

abbrev pub layer_of : {X : Type 0} {L : Ghosts X} → Frames X L → Layer
layer_of {X} {L} f = lay (plan_of f).shape (L.held f.first.sheet.layer)

-- the planes, with their pitches and the time
abbrev pub frames_of : {X : Type 0} {L : Ghosts X} → Frames X L → Pair
frames_of f = pair_of (plane_of f.first.raw.now f.first.pitch) (plane_of f.second.raw.now f.second.pitch) (plan_of f).shape.time
