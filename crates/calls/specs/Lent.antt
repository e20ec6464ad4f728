-- What calls are lent, argument by argument, as the records of the rules; and the calls themselves.
use Rattle.std.specs.Prelude.{Bool, List, [], ◌∷◌, ℕ, ℤ, Float}
use Rattle.rules.specs.declared.Sums.{Sums}
use Rattle.rules.specs.declared.Walk.{Walk}
use Rattle.rules.specs.Forms.{Plane, Motion, Pair, Slot, Part, Parts, Fit, Layer, Frames, Mask, part}
use Rattle.rules.specs.Calls.{StatsCall, FitCall, AssembleCall, PeelCall, UnpeelCall, RenderCall, ParcelWriteCall, ParcelReadCall, WalkPairCall, WalkLayerCall, Settings, MaskCall, ApplyCall, HoldCall}

-- ---- what is lent

-- bytes and their pitch
abbrev pub plane_of : List ℕ → (pitch : ℕ) → Plane
plane_of bytes pitch = record { bytes = bytes; pitch = pitch }

-- mask bytes and their width
abbrev pub mask_of : List ℕ → (width : ℕ) → Mask
mask_of bytes width = record { bytes = bytes; width = width }

-- a plane of each frame, and the time
abbrev pub frames_of : (first second : Plane) → (time : Float) → Frames
frames_of first second time = record { first = first; second = second; time = time }

-- the three slices of a layer, its pitches, sizes and ratio
abbrev pub layer_of : (luma chroma1 chroma2 : List ℤ) → (luma_pitch chroma_pitch width height ratio : ℕ) → Layer
layer_of luma chroma1 chroma2 luma_pitch chroma_pitch width height ratio =
    record { luma = luma; chroma = (chroma1, chroma2); pitch = (luma_pitch, chroma_pitch); size = (width, height); ratio = ratio }

-- the four fields of a motion and its numbers
abbrev pub motion_by : (forward_x forward_y backward_x backward_y : List ℕ) → (grid_width grid_height : ℕ) → (block_width block_height origin_x origin_y pel : ℤ) → Motion
motion_by forward_x forward_y backward_x backward_y grid_width grid_height block_width block_height origin_x origin_y pel =
    record {
      forward = (forward_x, forward_y);
      backward = (backward_x, backward_y);
      grid = (grid_width, grid_height);
      block = (block_width, block_height);
      origin = (origin_x, origin_y);
      pel = pel;
    }

-- the planes of two frames, and the motion between them
abbrev pub pair_of : (first0 first1 first2 second0 second1 second2 : Plane) → Motion → Pair
pair_of first0 first1 first2 second0 second1 second2 motion =
    record { first = (first0, first1, first2); second = (second0, second1, second2); motion = motion }

-- six sums, in the order of a part's slices
abbrev pub listed : Sums → List Float
listed t = t.p ∷ t.i ∷ t.pp ∷ t.pi ∷ t.ii ∷ t.apart ∷ []

-- the three slices of a part, and its pairs
abbrev pub part_of : (luma chroma1 chroma2 : List Float) → (pairs : ℕ) → Part
part_of luma chroma1 chroma2 pairs = part (luma, chroma1, chroma2) pairs

-- the own part between its neighbours
abbrev pub parts_of : (previous own next : Part) → Parts
parts_of previous own next = record { previous = previous; own = own; next = next }

-- the nine slices of a walk's sums, slot by slot
abbrev pub slots_of : (luma0 chroma01 chroma02 luma1 chroma11 chroma12 luma2 chroma21 chroma22 : List Float) → List Slot
slots_of luma0 chroma01 chroma02 luma1 chroma11 chroma12 luma2 chroma21 chroma22 =
    (luma0, chroma01, chroma02) ∷ (luma1, chroma11, chroma12) ∷ (luma2, chroma21, chroma22) ∷ []

-- the three slices that fit and assemble fill
abbrev pub fit_of : (luma chroma1 chroma2 : List ℤ) → Fit
fit_of luma chroma1 chroma2 = record { luma = luma; chroma = (chroma1, chroma2) }

-- ---- the calls

abbrev pub stats_call : (sums : Part) → (width height ratio : ℕ) → Pair → StatsCall
stats_call sums width height ratio pair = record { sums = sums; size = (width, height); ratio = ratio; pair = pair }

abbrev pub fit_call : Parts → (width height ratio : ℕ) → (limit evidence : Float) → (strict : Bool) → (models : List Float) → (kept cover : List ℕ) → (output : Fit) → FitCall
fit_call parts width height ratio limit evidence strict models kept cover output =
    record {
      parts = parts;
      size = (width, height);
      limit = limit;
      evidence = evidence;
      strict = strict;
      ratio = ratio;
      models = models;
      kept = kept;
      cover = cover;
      output = output;
    }

abbrev pub assemble_call : (width height ratio : ℕ) → (models : List Float) → (cover : List ℕ) → (output : Fit) → AssembleCall
assemble_call width height ratio models cover output = record { size = (width, height); ratio = ratio; models = models; cover = cover; output = output }

abbrev pub peel_call : Layer → (plane : ℕ) → (output raw : Plane) → PeelCall
peel_call layer plane output raw = record { layer = layer; plane = plane; output = output; raw = raw }

abbrev pub unpeel_call : Layer → (plane : ℕ) → (output : Plane) → Frames → UnpeelCall
unpeel_call layer plane output frames = record { layer = layer; plane = plane; output = output; frames = frames }

abbrev pub render_call : Layer → (plane : ℕ) → (output : Plane) → Frames → Motion → (algo : ℤ) → RenderCall
render_call layer plane output frames motion algo =
    record { layer = layer; plane = plane; output = output; frames = frames; motion = motion; algo = algo }

-- the writer and the reader of parcels
abbrev pub parcel_write_call : Layer → (parcel : List ℕ) → ParcelWriteCall
parcel_write_call layer parcel = record { layer = layer; parcel = parcel }

abbrev pub parcel_read_call : (parcel : List ℕ) → (output : Fit) → ParcelReadCall
parcel_read_call parcel output = record { parcel = parcel; output = output }

-- a pair that a walk is handed, and a layer that is taken from it
abbrev pub walk_pair_call : Walk → List Slot → (number : ℕ) → Pair → WalkPairCall
walk_pair_call walk slots number pair = record { walk = walk; slots = slots; number = number; pair = pair }

abbrev pub walk_layer_call : Walk → List Slot → (limit evidence : Float) → (strict : Bool) → (models : List Float) → (kept cover : List ℕ) → (output : Fit) → WalkLayerCall
walk_layer_call walk slots limit evidence strict models kept cover output =
    record {
      walk = walk;
      slots = slots;
      limit = limit;
      evidence = evidence;
      strict = strict;
      models = models;
      kept = kept;
      cover = cover;
      output = output;
    }

-- mask's three settings
abbrev pub settings_of : (limit edge tolerance : Float) → Settings
settings_of limit edge tolerance = record { limit = limit; edge = edge; tolerance = tolerance }

abbrev pub mask_call : (first second : Plane) → (width height : ℕ) → Settings → (still : List ℕ) → MaskCall
mask_call first second width height settings still =
    record { first = first; second = second; size = (width, height); settings = settings; still = still }

abbrev pub apply_call : (output : Plane) → Frames → (width height : ℕ) → Mask → ApplyCall
apply_call output frames width height mask = record { output = output; frames = frames; size = (width, height); mask = mask }

abbrev pub hold_call : (output held : Plane) → (width height : ℕ) → Mask → HoldCall
hold_call output held width height mask = record { output = output; held = held; size = (width, height); mask = mask }
