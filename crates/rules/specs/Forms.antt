-- "Rust forms and their stand-ins": the Rust's structs as records, and the words for going through counts, lists and
-- planes.
use Rattle.rules.specs.Words.{Bool, true, false, cond, List, [], ℕ, zero, suc, eqb, ℤ, pos, negsuc, get_or, set, Float, Answer}
use Rattle.std.specs.Prelude.{max, ◌&&◌, ◌||◌, ◌∷◌, ◌+◌, ◌-◌, ◌*◌, ◌/◌}

-- ---- the Rust's structs; a pair is across and down, or planes 1 and 2, or luma and chroma

-- bytes in rows that begin a pitch apart (the Rust calls them `data`, a word that antt keeps for itself)
pub record Plane : Type 0 where
  pub bytes : List ℕ
  pub pitch : ℕ

-- two fields of motion, a number across and one down for each block of a grid
pub record Motion : Type 0 where
  pub forward : List ℕ × List ℕ
  pub backward : List ℕ × List ℕ
  pub grid : ℕ × ℕ
  pub block : ℤ × ℤ
  pub origin : ℤ × ℤ
  pub pel : ℤ

-- two frames of three planes, and the motion between them
pub record Pair : Type 0 where
  pub first : Plane × Plane × Plane
  pub second : Plane × Plane × Plane
  pub motion : Motion

-- a part, the Rust's `Stats`: "six f32 sums per luma pixel", "two per chroma pixel in a slice for each chroma plane",
-- and its pairs
pub record Part : Type 0 where
  pub luma : List Float
  pub chroma : List Float × List Float
  pub pairs : ℕ

-- the slices of a part without its pairs: luma's sums, and those of planes 1 and 2
abbrev pub Slot : Type 0
Slot = List Float × List Float × List Float

-- a part of these slices and so many pairs
abbrev pub part : Slot → (pairs : ℕ) → Part
part s pairs = record { luma = s.0; chroma = (s.1, s.2); pairs = pairs }

-- the own part and its neighbours; "0 marks an absent neighbour"
pub record Parts : Type 0 where
  pub previous : Part
  pub own : Part
  pub next : Part

-- no part
abbrev pub absent : Part
absent = part ([], [], []) 0

-- what fit and assemble store
pub record Fit : Type 0 where
  pub luma : List ℤ
  pub chroma : List ℤ × List ℤ

-- stored numbers as a later call is lent them
pub record Layer : Type 0 where
  pub luma : List ℤ
  pub chroma : List ℤ × List ℤ
  pub pitch : ℕ × ℕ
  pub size : ℕ × ℕ
  pub ratio : ℕ

-- how many pixels a plane of this width and height has
abbrev pub area : ℕ × ℕ → ℕ
area size = size.0 * size.1

-- "width/ratio by height/ratio"
abbrev pub shrunk : ℕ × ℕ → (ratio : ℕ) → ℕ × ℕ
shrunk size ratio = (size.0 / ratio, size.1 / ratio)

-- the Rust's `Layer::ratio`: "Planes 0 luma, 1 and 2 chroma"
abbrev pub plane_ratio : Layer → (plane : ℕ) → ℕ
plane_ratio l plane = cond (eqb plane 0) 1 l.ratio

-- the Rust's `Layer::plane`: a plane's width and height
abbrev pub plane_size : Layer → (plane : ℕ) → ℕ × ℕ
plane_size l plane = shrunk l.size (plane_ratio l plane)

-- one plane of each of two frames, and a time from the first, 0, to the second, 1
pub record Frames : Type 0 where
  pub first : Plane
  pub second : Plane
  pub time : Float

-- a mask over a plane, in rows of its own width
pub record Mask : Type 0 where
  pub bytes : List ℕ
  pub width : ℕ

-- ---- counts and lists

-- n turns from a start: turn 0 is the first, turn n - 1 the last
unfoldable pub turns : {S : Type 0} → (ℕ → S → S) → ℕ → S → S
turns step zero start = start
turns step (suc n) start = step n (turns step n start)

-- the list of f 0, f 1, up to f (n - 1)
unfoldable pub tabulate : {A : Type 0} → ℕ → (ℕ → A) → List A
tabulate zero f = []
tabulate (suc n) f = f zero ∷ tabulate n (λ k. f (suc k))

-- whether one of 0 to n - 1 passes the test
unfoldable pub any : ℕ → (ℕ → Bool) → Bool
any n test = turns (λ k b. b || test k) n false

-- whether each of them does
unfoldable pub all : ℕ → (ℕ → Bool) → Bool
all n test = turns (λ k b. b && test k) n true

-- whether each of a list does
unfoldable pub each : {A : Type 0} → (A → Bool) → List A → Bool
each test [] = true
each test (a ∷ rest) = test a && each test rest

-- how many of 0 to n - 1 do
unfoldable pub how_many : ℕ → (ℕ → Bool) → ℕ
how_many n test = turns (λ k m. cond (test k) (m + 1) m) n 0

-- "width/8 .. rounded up": how many cells lie along a side
abbrev pub cells : ℕ → ℕ
cells n = (n + 7) / 8

-- how far apart two numbers are
abbrev pub apart : ℕ → ℕ → ℕ
apart a b = max (a - b) (b - a)

-- whether z is the number n
abbrev pub is_number : ℤ → ℕ → Bool
is_number (pos a) n = eqb a n
is_number (negsuc a) n = false

-- ---- a pass over a plane, and the rule that it follows

-- row y of a pass: columns 0 to width - 1
unfoldable pub scan_row : {S : Type 0} → (step : (x y : ℕ) → S → S) → (y width : ℕ) → S → S
scan_row step y width = turns (λ x. step x y) width

-- a pass over a plane of this width and height, row by row
unfoldable pub scan : {S : Type 0} → (step : (x y : ℕ) → S → S) → ℕ × ℕ → S → S
scan step size = turns (λ y. scan_row step y size.0) size.1

-- which pixels are written, by column x and row y, and what byte stands there then, by the byte that stood there
pub record Rule : Type 0 where
  pub writes : (x y : ℕ) → Bool
  pub byte : (x y old : ℕ) → ℕ

-- bytes in rows a pitch apart, with pixel (x, y) written if the rule writes it
unfoldable pub stroke : Rule → (pitch x y : ℕ) → List ℕ → List ℕ
stroke rule pitch x y bytes =
    let place = y * pitch + x in
    cond (rule.writes x y) (set bytes place (rule.byte x y (get_or bytes place 0))) bytes

-- the bytes of a plane of this width and height, written by a rule
unfoldable pub painted : Rule → ℕ × ℕ → Plane → List ℕ
painted rule size p = scan (stroke rule p.pitch) size p.bytes

-- n, and one more if the rule writes pixel (x, y)
unfoldable pub tally : Rule → (x y n : ℕ) → ℕ
tally rule x y n = cond (rule.writes x y) (n + 1) n

-- "the count of pixels that these rules write"
unfoldable pub counted : Rule → ℕ × ℕ → ℕ
counted rule size = scan (tally rule) size 0

-- ---- what a call answers and leaves, by the number of its refusal

-- "A refusal's answer is its number with count 0."
abbrev pub answer : (number count : ℕ) → Answer
answer number count = record { number = number; count = cond (eqb number 0) count 0 }

-- "An accepted call answers number 0, with count 0 unless a count is named"
abbrev pub uncounted : (number : ℕ) → Answer
uncounted number = record { number = number; count = 0 }

-- "Lent slices are unchanged" by a refusal: the new where the number is 0, else the old
abbrev pub leaves : {A : Type 0} → (number : ℕ) → (new old : A) → A
leaves number new old = cond (eqb number 0) new old
