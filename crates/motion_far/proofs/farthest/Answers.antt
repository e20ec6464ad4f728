-- `motion_far::farthest` meets its contract. Assumes nothing.
use Rattle.std.proofs.Common.{rules, ◌≡◌, ◌∙◌, max, fold}
use Rattle.rules.specs.Forms.{apart}
use Rattle.motion_far.proofs.Fields.{folded}
use Rattle.motion_far.proofs.farthest.Goals as goal

pub returns : goal.returns
returns c =
    let e : c.fold.result ≡ fold (λ m v. max m (apart v 1024)) c.args.least c.args.field.now = search rules in
    e ∙ folded c.args.field.now c.args.least
