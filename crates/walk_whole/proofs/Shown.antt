-- The example of a walk, closed by computation. Assumes nothing.
use mathlib.Core.Path.{refl}
use lib.Ieee as Ieee
use Rattle.rules.specs.Forms.{turns, tabulate, any, all, each, how_many, scan_row, scan}
use Rattle.rules.specs.Float.{abs, min, max, clamp, mix, rounded, negative, rounded_short, stored}
use Rattle.rules.specs.Refusals.{first_fitting, fit_refusal}
use Rattle.rules.specs.Model.{spread, line, same, left, trust, blend, model, error, set, is_plain}
use Rattle.rules.specs.Window.{total, tried, better, best, own_same, found, pick, window, chroma_offset, fitted}
use Rattle.rules.specs.Keeping.{near, kept, marks, cover, kept_models}
use Rattle.rules.specs.Distances.{least, nearest_to, distances}
use Rattle.rules.specs.Assembly.{luma_entry, chroma_total, stored_total, cell_entry, assembled}
use Rattle.rules.specs.Fit.{rough, fit_models, fit_cover, fit_leaves}
use Rattle.rules.specs.Reading.{sample}
use Rattle.rules.specs.Motion.{taps, row_taps, column_taps, column, step, steps}
use Rattle.rules.specs.Stats.{six_terms, terms, added, stats_sums}
use Rattle.rules.specs.Walk.{around, walk_start_refusal, walk_pair_refusal, pair_slots, walk_layer_refusal, walk_layer_leaves}
use Rattle.walk_whole.specs.Calls.{after_all, clip}
use Rattle.walk_whole.specs.Shown.{Walked, Layers, Higher}

pub walked : Walked
unfolding Ieee.add Ieee.div Ieee.eq Ieee.is_nan Ieee.le Ieee.lt Ieee.mul Ieee.of_bits Ieee.of_int Ieee.sub Ieee.to_unsigned all any each how_many scan scan_row tabulate turns abs clamp max min mix negative rounded rounded_short stored first_fitting fit_refusal blend error is_plain left line model same set spread trust best better chroma_offset fitted found own_same pick total tried window cover kept kept_models marks near distances least nearest_to assembled cell_entry chroma_total luma_entry stored_total fit_cover fit_leaves fit_models rough sample taps row_taps column_taps column step steps six_terms terms added stats_sums around walk_start_refusal walk_pair_refusal pair_slots walk_layer_refusal walk_layer_leaves after_all clip
walked = record { numbers = (refl, refl, refl); refused = (refl, refl); given = refl }

pub layers : Layers
unfolding Ieee.add Ieee.div Ieee.eq Ieee.is_nan Ieee.le Ieee.lt Ieee.mul Ieee.of_bits Ieee.of_int Ieee.sub Ieee.to_unsigned all any each how_many scan scan_row tabulate turns abs clamp max min mix negative rounded rounded_short stored first_fitting fit_refusal blend error is_plain left line model same set spread trust best better chroma_offset fitted found own_same pick total tried window cover kept kept_models marks near distances least nearest_to assembled cell_entry chroma_total luma_entry stored_total fit_cover fit_leaves fit_models rough sample taps row_taps column_taps column step steps six_terms terms added stats_sums around walk_start_refusal walk_pair_refusal pair_slots walk_layer_refusal walk_layer_leaves after_all
layers = (refl, refl)

pub higher : Higher
unfolding Ieee.add Ieee.div Ieee.eq Ieee.is_nan Ieee.le Ieee.lt Ieee.mul Ieee.of_bits Ieee.of_int Ieee.sub Ieee.to_unsigned all any each how_many scan scan_row tabulate turns abs clamp max min mix negative rounded rounded_short stored first_fitting fit_refusal blend error is_plain left line model same set spread trust best better chroma_offset fitted found own_same pick total tried window cover kept kept_models marks near distances least nearest_to assembled cell_entry chroma_total luma_entry stored_total fit_cover fit_leaves fit_models rough sample taps row_taps column_taps column step steps six_terms terms added stats_sums around walk_start_refusal walk_pair_refusal pair_slots walk_layer_refusal walk_layer_leaves after_all
higher = (refl, refl)
