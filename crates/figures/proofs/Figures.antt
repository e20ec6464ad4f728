-- Theorem P, and the paper's other figures: closed by computation. Each lists the definitions that it computes. Assumes
-- nothing.
use mathlib.Core.Path.{refl}
use lib.Ieee as Ieee
use Rattle.rules.specs.Forms.{turns, tabulate, any, all, each, how_many, scan_row, scan, stroke, painted, tally, counted}
use Rattle.rules.specs.Float.{abs, min, max, clamp, mix, median, rounded, negative, pixel, rounded_short, stored}
use Rattle.rules.specs.Refusals.{first_fitting, distances_refusal, empty_refusal, peel_refusal, unpeel_refusal, render_refusal, apply_refusal, hold_refusal, assemble_refusal, fit_refusal}
use Rattle.rules.specs.Model.{spread, line, same, left, trust, blend, model, error, set, is_plain}
use Rattle.rules.specs.Window.{total, tried, better, best, own_same, found, pick, window, chroma_offset, fitted}
use Rattle.rules.specs.Keeping.{near, kept, marks, cover, kept_models}
use Rattle.rules.specs.Distances.{least, nearest_to, distances}
use Rattle.rules.specs.Assembly.{luma_entry, chroma_total, stored_total, cell_entry, assembled, model_slice}
use Rattle.rules.specs.Fit.{rough, fit_models}
use Rattle.rules.specs.Reading.{distance, gap, gain_total, luma_texel, chroma_texel, texel, mixed_model, model_at, sample}
use Rattle.rules.specs.Scene.{lifted, under, gathered, point, stepped, ring, mean_or, filled, scene}
use Rattle.rules.specs.Peel.{layered, peel_rule}
use Rattle.rules.specs.Unpeel.{relaid, unpeel_rule}
use Rattle.rules.specs.Motion.{taps, row_taps, column_taps, column, step, steps}
use Rattle.rules.specs.Render.{farthest, far, timed, reach, rendered, moved, exchanged, chosen, between, base, composed, own_steps, seen, render_rule}
use Rattle.rules.specs.Still.{detail, is_same, same_at, byte_sum, apply_rule, weighed, hold_rule}
use Rattle.rules.specs.Host.{numbers}
use Rattle.figures.specs.P.{TheoremP}
use Rattle.figures.specs.Others.{RefusedGrids, RefusedSteps, Beyond, AddingHalf, MarkedOnly, SizeFirst, PartialSums, Mixing, Holding, Keeping, Filling, FilledMean, Refusals, RefusedTimes, RefusedPel, RefusedPairs, Hosting}

pub P : TheoremP
unfolding Ieee.add Ieee.div Ieee.eq Ieee.is_nan Ieee.le Ieee.lt Ieee.mul Ieee.of_bits Ieee.of_int Ieee.sub Ieee.to_unsigned counted each painted scan scan_row stroke tabulate tally turns abs clamp max median min mix negative pixel rounded stored rounded_short first_fitting peel_refusal unpeel_refusal is_plain set total distances least nearest_to chroma_texel distance gain_total gap luma_texel mixed_model model_at sample texel filled gathered lifted mean_or point ring scene stepped under layered peel_rule relaid unpeel_rule column step
P = (refl, refl, refl, refl, refl, refl, refl, refl, refl, refl, refl, refl, refl, refl, refl, refl)

pub beyond : Beyond
unfolding Ieee.add Ieee.div Ieee.eq Ieee.is_nan Ieee.le Ieee.lt Ieee.mul Ieee.of_bits Ieee.of_int Ieee.sub Ieee.to_unsigned counted each painted scan scan_row stroke tally turns abs clamp min mix negative pixel rounded first_fitting peel_refusal is_plain set total chroma_texel distance gain_total gap luma_texel mixed_model model_at sample texel filled gathered lifted mean_or point ring scene stepped under layered peel_rule column step
beyond = (refl, refl)

pub adding_half : AddingHalf
unfolding Ieee.add Ieee.is_nan Ieee.lt Ieee.of_bits Ieee.to_unsigned min negative pixel rounded
adding_half = (refl, refl)

pub marked_only : MarkedOnly
unfolding Ieee.add Ieee.div Ieee.eq Ieee.is_nan Ieee.le Ieee.lt Ieee.mul Ieee.of_bits Ieee.of_int Ieee.sub Ieee.to_unsigned counted each scan scan_row tally turns abs clamp min mix negative pixel rounded first_fitting peel_refusal is_plain total chroma_texel distance gain_total gap luma_texel mixed_model model_at sample texel filled gathered lifted mean_or point ring scene stepped under layered peel_rule column step
marked_only = (refl, refl)

pub size_first : SizeFirst
unfolding Ieee.add Ieee.div Ieee.eq Ieee.is_nan Ieee.le Ieee.lt Ieee.mul Ieee.of_bits Ieee.of_int Ieee.sub Ieee.to_unsigned each painted scan scan_row stroke turns abs clamp min mix negative pixel rounded first_fitting peel_refusal is_plain set total chroma_texel distance gain_total gap luma_texel mixed_model model_at sample texel filled gathered lifted mean_or point ring scene stepped under layered peel_rule column step
size_first = refl

pub partial_sums : PartialSums
unfolding Ieee.add Ieee.div Ieee.eq Ieee.is_nan Ieee.le Ieee.lt Ieee.mul Ieee.of_bits Ieee.of_int Ieee.sub all any how_many scan scan_row tabulate turns abs clamp max min mix negative rounded stored rounded_short first_fitting blend error is_plain left line model same set spread trust best better chroma_offset fitted found own_same pick total tried window cover kept marks near assemble_refusal assembled cell_entry chroma_total luma_entry model_slice stored_total rough column step
partial_sums = refl

pub mixing : Mixing
unfolding Ieee.add Ieee.div Ieee.is_nan Ieee.le Ieee.lt Ieee.mul Ieee.of_bits Ieee.of_int Ieee.sub each painted scan scan_row stroke turns abs min mix negative pixel rounded apply_refusal first_fitting set column step apply_rule byte_sum
mixing = (refl, refl)

pub holding : Holding
unfolding Ieee.add Ieee.div Ieee.eq Ieee.is_nan Ieee.le Ieee.lt Ieee.mul Ieee.of_bits Ieee.of_int Ieee.sub any each how_many painted scan scan_row stroke tabulate turns abs clamp max min mix first_fitting hold_refusal blend error is_plain left line model same set spread trust best better chroma_offset fitted found own_same pick total tried window cover kept marks near rough column step byte_sum detail hold_rule is_same same_at weighed
holding = refl

pub keeping : Keeping
unfolding Ieee.add Ieee.div Ieee.eq Ieee.is_nan Ieee.le Ieee.lt Ieee.mul Ieee.of_bits Ieee.of_int Ieee.sub any how_many tabulate turns abs clamp max min mix blend error is_plain left line model same set spread trust best better chroma_offset fitted found own_same pick total tried window cover kept marks near rough column step
keeping = (refl, refl, refl, refl, refl, refl)

pub filling : Filling
unfolding Ieee.add Ieee.div Ieee.eq Ieee.is_nan Ieee.le Ieee.lt Ieee.mul Ieee.of_bits Ieee.of_int Ieee.sub Ieee.to_unsigned each painted scan scan_row stroke turns abs clamp min mix negative pixel rounded first_fitting peel_refusal is_plain set total chroma_texel distance gain_total gap luma_texel mixed_model model_at sample texel filled gathered lifted mean_or point ring scene stepped under layered peel_rule column step
filling = refl

pub filled_mean : FilledMean
unfolding Ieee.add Ieee.div Ieee.eq Ieee.is_nan Ieee.le Ieee.lt Ieee.mul Ieee.of_bits Ieee.of_int Ieee.sub Ieee.to_unsigned each painted scan scan_row stroke turns abs clamp max median min mix negative pixel rounded first_fitting render_refusal is_plain set total chroma_texel distance gain_total gap luma_texel mixed_model model_at sample texel filled gathered lifted mean_or point ring scene stepped under layered base between chosen composed exchanged far farthest moved own_steps reach render_rule rendered seen timed column column_taps row_taps step steps taps
filled_mean = refl

pub refusals : Refusals
unfolding Ieee.add Ieee.div Ieee.eq Ieee.is_nan Ieee.le Ieee.lt Ieee.mul Ieee.of_bits Ieee.of_int Ieee.sub Ieee.to_unsigned counted each scan scan_row tabulate tally turns abs clamp max min mix negative pixel rounded distances_refusal empty_refusal first_fitting peel_refusal is_plain total distances least nearest_to chroma_texel distance gain_total gap luma_texel mixed_model model_at sample texel filled gathered lifted mean_or point ring scene stepped under layered peel_rule column step
refusals = (refl, refl, refl, refl, refl)

pub refused_times : RefusedTimes
unfolding Ieee.add Ieee.div Ieee.eq Ieee.is_nan Ieee.le Ieee.lt Ieee.mul Ieee.of_bits Ieee.of_int Ieee.sub Ieee.to_unsigned counted each painted scan scan_row stroke tally turns abs clamp max median min mix negative pixel rounded first_fitting unpeel_refusal is_plain set total chroma_texel distance gain_total gap luma_texel sample texel layered relaid unpeel_rule column step
refused_times = (refl, refl, refl)

pub refused_pel : RefusedPel
unfolding Ieee.add Ieee.div Ieee.eq Ieee.is_nan Ieee.le Ieee.lt Ieee.mul Ieee.of_bits Ieee.of_int Ieee.sub Ieee.to_unsigned counted each scan scan_row tally turns abs clamp max median min mix negative pixel rounded first_fitting render_refusal is_plain total chroma_texel distance gain_total gap luma_texel mixed_model model_at sample texel filled gathered lifted mean_or point ring scene stepped under layered base between chosen composed exchanged far farthest moved own_steps reach render_rule rendered seen timed column column_taps row_taps step steps taps
refused_pel = refl

pub refused_grids : RefusedGrids
unfolding Ieee.add Ieee.div Ieee.eq Ieee.is_nan Ieee.le Ieee.lt Ieee.mul Ieee.of_bits Ieee.of_int Ieee.sub Ieee.to_unsigned counted each scan scan_row tally turns abs clamp max median min mix negative pixel rounded first_fitting render_refusal is_plain total chroma_texel distance gain_total gap luma_texel mixed_model model_at sample texel filled gathered lifted mean_or point ring scene stepped under layered base between chosen composed exchanged far farthest moved own_steps reach render_rule rendered seen timed column column_taps row_taps step steps taps
refused_grids = (refl, refl, refl)

pub refused_steps : RefusedSteps
unfolding each first_fitting hold_refusal
refused_steps = (refl, refl, refl, refl)

pub refused_pairs : RefusedPairs
unfolding Ieee.le Ieee.of_bits first_fitting fit_refusal
refused_pairs = refl

pub hosting : Hosting
unfolding Ieee.add Ieee.div Ieee.eq Ieee.is_nan Ieee.le Ieee.lt Ieee.mul Ieee.of_bits Ieee.of_int Ieee.sub Ieee.to_unsigned counted each scan scan_row tabulate tally turns abs clamp min mix negative pixel rounded first_fitting peel_refusal is_plain total chroma_texel distance gain_total gap luma_texel mixed_model model_at sample texel filled gathered lifted mean_or point ring scene stepped under layered peel_rule column step numbers
hosting = (refl, refl)
