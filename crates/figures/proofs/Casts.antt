-- The figures of strong colour casts: closed by computation. Each lists the definitions that it computes. Assumes
-- nothing.
use mathlib.Core.Path.{refl}
use lib.Ieee as Ieee
use Rattle.rules.specs.Forms.{turns, tabulate, any, all, how_many, scan_row, scan}
use Rattle.rules.specs.Float.{abs, min, max, clamp, mix, rounded, negative, rounded_short, stored}
use Rattle.rules.specs.Refusals.{first_fitting, fit_refusal, assemble_refusal}
use Rattle.rules.specs.Model.{spread, line, same, left, trust, blend, model, error, set, is_plain}
use Rattle.rules.specs.Window.{total, tried, better, best, own_same, found, pick, window, chroma_offset, fitted}
use Rattle.rules.specs.Keeping.{near, kept, marks, cover, kept_models}
use Rattle.rules.specs.Distances.{least, nearest_to, distances}
use Rattle.rules.specs.Assembly.{luma_entry, chroma_total, stored_total, cell_entry, assembled, model_slice}
use Rattle.rules.specs.Fit.{rough, fit_models, fit_cover, fit_leaves}
use Rattle.figures.specs.Casts.{Ends, Held, Back, Cast}

pub ends : Ends
unfolding Ieee.div Ieee.mul Ieee.of_bits Ieee.of_int scan scan_row tabulate turns negative rounded rounded_short stored first_fitting assemble_refusal assembled chroma_total stored_total model_slice
ends = (refl, refl, refl, refl)

pub held : Held
unfolding Ieee.div Ieee.mul Ieee.of_bits Ieee.of_int scan scan_row tabulate turns negative rounded rounded_short stored first_fitting assemble_refusal assembled cell_entry chroma_total stored_total model_slice
held = (refl, refl, refl)

pub back : Back
unfolding Ieee.div Ieee.mul Ieee.of_bits Ieee.of_int scan scan_row tabulate turns negative rounded rounded_short stored first_fitting assemble_refusal assembled chroma_total stored_total model_slice
back = refl

pub cast : Cast
unfolding Ieee.add Ieee.div Ieee.eq Ieee.is_nan Ieee.le Ieee.lt Ieee.mul Ieee.of_bits Ieee.of_int Ieee.sub all any how_many scan scan_row tabulate turns abs clamp max min mix negative rounded rounded_short stored first_fitting fit_refusal blend error is_plain left line model same set spread trust best better chroma_offset fitted found own_same pick total tried window cover kept kept_models marks near distances least nearest_to assembled cell_entry chroma_total luma_entry stored_total fit_cover fit_leaves fit_models rough
cast = (refl, refl, refl, refl)
