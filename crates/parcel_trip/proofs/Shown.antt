-- A layer that goes through a parcel, by computation: the theorem is not empty. Assumes nothing.
use mathlib.Core.Path.{refl}
use Rattle.rules.specs.Forms.{tabulate, turns, all, each}
use Rattle.rules.specs.Refusals.{first_fitting, parcel_write_refusal}
use Rattle.rules.specs.Host.{numbers}
use Rattle.rules.specs.Parcel.{in_bytes, written, run_bytes, split, how_often, kinds_right, payload_of, lengths_right, layer_records, parcel_of, cell_or_zero, layer_read, parcel_read_refusal}
use Rattle.parcel_trip.specs.Trip.{Example}

pub shown : Example
unfolding tabulate turns all each first_fitting parcel_write_refusal numbers in_bytes written run_bytes split how_often kinds_right payload_of lengths_right layer_records parcel_of cell_or_zero layer_read parcel_read_refusal
shown =
    record {
      short = record { luma = refl; first = refl; second = refl };
      accepted = refl;
      exact = refl;
      read = refl;
      told = refl;
    }
