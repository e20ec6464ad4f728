-- The examples of demand 3, closed by computation. Assumes nothing.
use mathlib.Core.Path.{refl}
use lib.Ieee as Ieee
use Rattle.rules.specs.Forms.{turns, tabulate, any, all, each, how_many, scan_row, scan, stroke, painted, tally, counted}
use Rattle.rules.specs.Float.{abs, min, max, clamp, mix, rounded, negative, pixel, rounded_short, stored}
use Rattle.rules.specs.Refusals.{first_fitting, peel_refusal, fit_refusal}
use Rattle.rules.specs.Model.{spread, line, same, left, trust, blend, model, error, set, is_plain}
use Rattle.rules.specs.Window.{total, tried, better, best, own_same, found, pick, window, chroma_offset, fitted}
use Rattle.rules.specs.Keeping.{near, kept, marks, cover, kept_models}
use Rattle.rules.specs.Distances.{least, nearest_to, distances}
use Rattle.rules.specs.Assembly.{luma_entry, chroma_total, stored_total, cell_entry, assembled}
use Rattle.rules.specs.Fit.{rough, fit_models, fit_cover, fit_leaves}
use Rattle.rules.specs.Reading.{distance, gap, gain_total, luma_texel, chroma_texel, texel, model_at, sample}
use Rattle.rules.specs.Scene.{lifted, under, gathered, point, stepped, ring, mean_or, filled, scene}
use Rattle.rules.specs.Peel.{layered, peel_rule}
use Rattle.evidence_shown.specs.Shown.{MadeTwice, NotEmpty, BoundNeeded, LumaAlone}

pub twice : MadeTwice
unfolding Ieee.le Ieee.of_bits
twice luma size ratio = record { strict = (refl, refl); evidence = refl; sums = refl; size = refl; ratio = refl; limit = refl }

pub shown : NotEmpty × BoundNeeded × LumaAlone
unfolding Ieee.add Ieee.div Ieee.eq Ieee.is_nan Ieee.le Ieee.lt Ieee.mul Ieee.of_bits Ieee.of_int Ieee.sub Ieee.to_unsigned all any counted each how_many painted scan scan_row stroke tabulate tally turns abs clamp max min mix negative pixel rounded stored rounded_short first_fitting peel_refusal blend error is_plain left line model same set spread trust best better chroma_offset fitted found own_same pick total tried window cover kept kept_models marks near distances least nearest_to assembled cell_entry chroma_total luma_entry stored_total fit_cover fit_leaves fit_models fit_refusal rough chroma_texel distance gain_total gap luma_texel model_at sample texel filled gathered lifted mean_or point ring scene stepped under layered peel_rule
shown = (
  record { fits = (refl, refl); pairs = (refl, refl); pairs' = (refl, refl); cells = (refl, refl); answers = (refl, refl); bytes = refl; bytes' = refl },
  record { fits = (refl, refl); pairs = (refl, refl); bytes = refl; bytes' = refl },
  record { fits = (refl, refl); answers = (refl, refl); bytes = (refl, refl) },
)
