-- The figures of a walk: closed by computation. Each lists the definitions that it computes. Assumes nothing.
use mathlib.Core.Path.{refl}
use lib.Ieee as Ieee
use Rattle.rules.specs.Forms.{each}
use Rattle.rules.specs.Refusals.{first_fitting}
use Rattle.rules.specs.Walk.{walk_start_refusal, walk_pair_refusal, walk_layer_refusal}
use Rattle.figures.specs.Walks.{Counted, Dues, Lefts, Starts, PairTwelve, LayerTwelve}

pub counted : Counted
counted = (refl, refl, refl, refl, refl)

pub dues : Dues
dues = (refl, refl, refl, refl, refl, refl, refl, refl, refl, refl)

pub lefts : Lefts
lefts = (refl, refl, refl, refl, refl, refl, refl, refl, refl, refl)

pub starts : Starts
unfolding first_fitting walk_start_refusal
starts = (refl, refl, refl, refl)

pub pair_twelve : PairTwelve
unfolding each first_fitting walk_pair_refusal
pair_twelve = (refl, refl, refl, refl, refl, refl)

pub layer_twelve : LayerTwelve
unfolding Ieee.le Ieee.of_bits each first_fitting walk_layer_refusal
layer_twelve = (refl, refl, refl, refl)
