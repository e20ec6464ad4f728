-- "Domain", its table: the rows of each call, "checked in this order". Rows that a call does not have are left out, and
-- the last one altogether: 02 takes it away.
use Rattle.std.specs.Prelude.{◌&&◌, ◌||◌, ◌∷◌, Result, Ok, Err}
use Rattle.rules.specs.declared.Refusal.{Refusal}
use Rattle.rules.specs.declared.Refusal.TheVariants.{Size, Ratio, Pitch, Length, Movement, Setting, Pairs, Cut, Kind, Payload, Turn}
use Rattle.rules.specs.Words.{Bool, false, cond, not, List, [], ℕ, leb, eqb, length, Answer, Reply}
use Rattle.rules.specs.Literals.{0·0, 0·5, 255·0, 65536·0}
use Rattle.rules.specs.Float.{within}
use Rattle.rules.specs.Forms.{Plane, Motion, Pair, Part, Layer, shrunk, plane_size}
use Rattle.rules.specs.Calls.{StatsCall, FitCall, AssembleCall, DistancesCall, PeelCall, UnpeelCall, RenderCall, ParcelWriteCall, MaskCall, ApplyCall, HoldCall}
use Rattle.rules.specs.Domain.{kept_length, mask_length, parcel_length, are_sizes, is_ratio, have_pitches, have_lengths, are_sums, is_fit, are_models, is_cover, layer_pitches, layer_lengths, motion_lengths, motion_numbers, is_time, are_steps}

-- the number of each refusal; 9 to 12 are the requests' "New numbers"
abbrev pub number_of : Refusal → ℕ
number_of Size = 1
number_of Ratio = 2
number_of Pitch = 3
number_of Length = 4
number_of Movement = 5
number_of Setting = 6
number_of Pairs = 7
number_of Cut = 9
number_of Kind = 10
number_of Payload = 11
number_of Turn = 12

-- the number that a call answers, or else `rest`
abbrev pub number_or : {A : Type 0} → Result A Refusal → (rest : ℕ) → ℕ
number_or (Ok a) rest = rest
number_or (Err r) rest = number_of r

-- the number that a call answers, 0 where it is accepted
abbrev pub numbered : {A : Type 0} → Result A Refusal → ℕ
numbered r = number_or r 0

-- with its count: "A refusal's answer is its number with count 0."
abbrev pub answered : Result ℕ Refusal → Answer
answered (Ok count) = record { number = 0; count = count }
answered (Err r) = record { number = number_of r; count = 0 }

-- with a yes or no besides
abbrev pub replied : Result Bool Refusal → Reply
replied (Ok answer) = record { answer = record { number = 0; count = 0 }; yes = answer }
replied (Err r) = record { answer = record { number = number_of r; count = 0 }; yes = false }

-- a row: the number, and whether it fits; a number may have several rows, and a row several tests
infix 20 ◌unless◌
abbrev pub ◌unless◌ : ℕ → (right : Bool) → ℕ × Bool
number unless right = (number, not right)

-- a table, from its first row on
abbrev pub Table : Type 0
Table = List (ℕ × Bool)

-- the first number that fits, 0 where none does
unfoldable pub first_fitting : Table → ℕ
first_fitting [] = 0
first_fitting (row ∷ rest) = cond row.1 row.0 (first_fitting rest)

-- ---- rows that several calls share, before the rest of a table

-- luma's sizes, and the ratio
abbrev pub size_rows : (size : ℕ × ℕ) → (ratio : ℕ) → (rest : Table) → Table
size_rows size ratio rest = (1 unless are_sizes size) ∷ (2 unless is_ratio ratio size) ∷ rest

-- byte planes of one width and height
abbrev pub plane_rows : List Plane → ℕ × ℕ → (rest : Table) → Table
plane_rows lent size rest = (3 unless have_pitches lent size) ∷ (4 unless have_lengths lent size) ∷ rest

-- a motion
abbrev pub motion_rows : Motion → (rest : Table) → Table
motion_rows m rest = (4 unless motion_lengths m) ∷ (5 unless motion_numbers m) ∷ rest

-- a layer, one of its planes, and byte planes that lie over it
abbrev pub layer_rows : Layer → (plane : ℕ) → (lent : List Plane) → (rest : Table) → Table
layer_rows l plane lent rest =
    (1 unless leb plane 2)
    ∷ size_rows l.size l.ratio (
    (3 unless layer_pitches l)
    ∷ plane_rows lent (plane_size l plane) (
    (4 unless layer_lengths l)
    ∷ rest))

-- the luma planes of a pair, and its chroma planes
abbrev pub lumas : Pair → List Plane
lumas p = p.first.0 ∷ p.second.0 ∷ []

abbrev pub chromas : Pair → List Plane
chromas p = p.first.1 ∷ p.first.2 ∷ p.second.1 ∷ p.second.2 ∷ []

-- a pair that is added to sums, whose lengths are right or not
abbrev pub pair_rows : StatsCall → (sums : Bool) → (rest : Table) → Table
pair_rows c sums rest =
    let chroma_size = shrunk c.size c.ratio in
    size_rows c.size c.ratio (
    (3 unless have_pitches (lumas c.pair) c.size)
    ∷ (3 unless have_pitches (chromas c.pair) chroma_size)
    ∷ (4 unless have_lengths (lumas c.pair) c.size)
    ∷ (4 unless have_lengths (chromas c.pair) chroma_size)
    ∷ (4 unless sums)
    ∷ motion_rows c.pair.motion rest)

-- "12 or more pairs already summed in stats"
unfoldable pub stats_refusal : StatsCall → ℕ
stats_refusal c = first_fitting (pair_rows c (are_sums c.sums c.size c.ratio) ((7 unless leb c.sums.pairs 11) ∷ []))

-- a neighbour: "0 marks an absent neighbour, whose slices aren't looked at"
abbrev pub is_neighbour : Part → ℕ × ℕ → (ratio : ℕ) → Bool
is_neighbour p size ratio = eqb p.pairs 0 || are_sums p size ratio

-- fit's work slices and outputs, and its settings
abbrev pub work_rows : FitCall → (rest : Table) → Table
work_rows c rest =
    let size = c.size in
    (4 unless are_models c.models size)
    ∷ (4 unless eqb (length c.kept) (kept_length size))
    ∷ (4 unless is_cover c.cover size)
    ∷ (4 unless is_fit c.output size c.ratio)
    ∷ (6 unless within c.limit 0·5 255·0)
    ∷ (6 unless within c.evidence 0·0 65536·0)
    ∷ rest

-- fit: "pairs above 12; own part 0"
unfoldable pub fit_refusal : FitCall → ℕ
fit_refusal c =
    let size = c.size in
    let parts = c.parts in
    first_fitting (size_rows size c.ratio (
    (4 unless is_neighbour parts.previous size c.ratio)
    ∷ (4 unless are_sums parts.own size c.ratio)
    ∷ (4 unless is_neighbour parts.next size c.ratio)
    ∷ work_rows c (
    (7 unless leb parts.previous.pairs 12)
    ∷ (7 unless leb 1 parts.own.pairs && leb parts.own.pairs 12)
    ∷ (7 unless leb parts.next.pairs 12)
    ∷ [])))

-- assemble: models, a cover, and the slices that it fills
unfoldable pub assemble_refusal : AssembleCall → ℕ
assemble_refusal c =
    first_fitting (size_rows c.size c.ratio (
    (4 unless are_models c.models c.size)
    ∷ (4 unless is_cover c.cover c.size)
    ∷ (4 unless is_fit c.output c.size c.ratio)
    ∷ []))

-- "(`distances`: only width 0)"
unfoldable pub distances_refusal : DistancesCall → ℕ
distances_refusal c = first_fitting ((1 unless leb 1 c.width) ∷ [])

-- empty: luma, and no byte plane
unfoldable pub empty_refusal : Layer → ℕ
empty_refusal l = first_fitting (layer_rows l 0 [] [])

-- peel: an output and a raw plane
unfoldable pub peel_refusal : PeelCall → ℕ
peel_refusal c = first_fitting (layer_rows c.layer c.plane (c.output ∷ c.raw ∷ []) [])

-- unpeel: an output, and a plane of each frame
unfoldable pub unpeel_refusal : UnpeelCall → ℕ
unpeel_refusal c =
    let f = c.frames in
    first_fitting (layer_rows c.layer c.plane (c.output ∷ f.first ∷ f.second ∷ []) ((6 unless is_time f.time) ∷ []))

-- render: a motion besides
unfoldable pub render_refusal : RenderCall → ℕ
render_refusal c =
    let f = c.frames in
    first_fitting (
    layer_rows c.layer c.plane (c.output ∷ f.first ∷ f.second ∷ []) (motion_rows c.motion ((6 unless is_time f.time) ∷ [])))

-- the writer of parcels (02): a layer, and an output of "exactly the parcel's length"
unfoldable pub parcel_write_refusal : ParcelWriteCall → ℕ
parcel_write_refusal c =
    let l = c.layer in
    first_fitting (layer_rows l 0 [] ((4 unless eqb (length c.parcel) (parcel_length l.size l.ratio)) ∷ []))

-- a parcel that is read (02): "the reader tests 9, 10, 11 in that order, each over the whole parcel"; what holds of its
-- records, of their kinds and of their lengths, Parcel.antt says
abbrev pub parcel_rows : (whole kinds lengths : Bool) → (rest : Table) → Table
parcel_rows whole kinds lengths rest = (9 unless whole) ∷ (10 unless kinds) ∷ (11 unless lengths) ∷ rest

-- mask: two planes, and the slice that it fills
unfoldable pub mask_refusal : MaskCall → ℕ
mask_refusal c =
    first_fitting (
    (1 unless are_sizes c.size) ∷ plane_rows (c.first ∷ c.second ∷ []) c.size ((4 unless eqb (length c.still) (mask_length c.size)) ∷ []))

-- apply: "in apply and hold, a mask width or mask length with no whole step of 1..8"
unfoldable pub apply_refusal : ApplyCall → ℕ
apply_refusal c =
    let f = c.frames in
    first_fitting (
    (1 unless are_sizes c.size)
    ∷ (2 unless are_steps c.mask c.size)
    ∷ plane_rows (c.output ∷ f.first ∷ f.second ∷ []) c.size ((6 unless is_time f.time) ∷ []))

-- hold: an output, and the plane that is kept
unfoldable pub hold_refusal : HoldCall → ℕ
hold_refusal c =
    first_fitting (
    (1 unless are_sizes c.size) ∷ (2 unless are_steps c.mask c.size) ∷ plane_rows (c.output ∷ c.held ∷ []) c.size [])
