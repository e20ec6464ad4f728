-- `layer_refuse::rows` meets its contract: what is measured of the byte planes says which rows fit. Assumes nothing.
use Rattle.std.proofs.Common.{arith}
use Rattle.std.proofs.lemmas.Grind.{common_steps}
use Rattle.rules.specs.Refusals.{first_fitting}
use Rattle.layer_refuse.proofs.Measured.{pitches_are, lengths_are}
use Rattle.layer_refuse.proofs.rows.Goals as goal

pub returns-in_err-ensure-5 : goal.returns-in_err-ensure-5
unfolding first_fitting
returns-in_err-ensure-5 g c lent rest e =
    grind (arith, common_steps, pitches_are lent c.args.over.now c.divided-width.result c.divided-height.result e)

pub returns-in_err-ensure-6 : goal.returns-in_err-ensure-6
unfolding first_fitting
returns-in_err-ensure-6 g c lent rest e =
    let w = c.divided-width.result in
    let h = c.divided-height.result in
    grind (arith, common_steps, pitches_are lent c.args.over.now w h e, lengths_are lent c.args.over.now (w, h) e)

pub returns : goal.returns
unfolding first_fitting
returns g c lent rest e =
    let w = c.divided-width.result in
    let h = c.divided-height.result in
    grind (arith, common_steps, pitches_are lent c.args.over.now w h e, lengths_are lent c.args.over.now (w, h) e)
