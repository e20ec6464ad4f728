-- The figures of parcels: closed by computation. Each lists the definitions that it computes. Assumes nothing.
use mathlib.Core.Path.{refl}
use Rattle.rules.specs.Forms.{turns, tabulate, all, each}
use Rattle.rules.specs.Refusals.{first_fitting, parcel_write_refusal}
use Rattle.rules.specs.Host.{numbers}
use Rattle.rules.specs.Parcel.{in_bytes, written, run_bytes, split, how_often, kinds_right, payload_of, lengths_right, layer_records, parcel_of, cell_or_zero, layer_read, parcel_sizes_refusal, parcel_read_refusal}
use Rattle.figures.specs.Parcels.{Written, Read, Cut, Kinds, Lengths, Lent}

pub written_out : Written
unfolding tabulate each first_fitting parcel_write_refusal in_bytes written run_bytes layer_records parcel_of
written_out = (refl, refl, refl, refl, refl)

pub read : Read
unfolding turns tabulate all each first_fitting numbers in_bytes split how_often kinds_right payload_of lengths_right cell_or_zero layer_read parcel_read_refusal
read = (refl, refl, refl)

pub cut : Cut
unfolding turns all each first_fitting in_bytes split how_often kinds_right payload_of lengths_right parcel_sizes_refusal parcel_read_refusal
cut = (refl, refl, refl, refl)

pub kinds : Kinds
unfolding turns all each first_fitting in_bytes split how_often kinds_right payload_of lengths_right parcel_sizes_refusal
kinds = (refl, refl, refl, refl, refl, refl)

pub lengths : Lengths
unfolding turns all each first_fitting in_bytes split how_often kinds_right payload_of lengths_right parcel_sizes_refusal
lengths = (refl, refl, refl, refl)

pub lent : Lent
unfolding turns all each first_fitting in_bytes split how_often kinds_right payload_of lengths_right layer_read parcel_read_refusal
lent = (refl, refl)
