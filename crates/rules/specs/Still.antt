-- "still.rs": mask, apply and hold.
use Rattle.std.specs.Prelude.{◌&&◌, ◌||◌, ◌+◌, ◌-◌, ◌*◌, ◌/◌, ◌%◌}
use Rattle.rules.specs.Words.{Bool, cond, List, ℕ, ltb, length, get_or, Float}
use Prim.Native.Nat as Nat
use Rattle.rules.specs.Literals.{4·0, 255·0}
use Rattle.rules.specs.Float.{◌⊖◌, ◌⊗◌, ◌⊘◌, ◌≺◌, ◌≼◌, float, abs, max, mix, pixel}
use Rattle.rules.specs.Forms.{Plane, Frames, Mask, Rule, tabulate, scan, apart, area, painted, leaves}
use Rattle.rules.specs.Calls.{Settings, MaskCall, ApplyCall, HoldCall}
use Rattle.rules.specs.Refusals.{mask_refusal, apply_refusal, hold_refusal}
use Rattle.rules.specs.Reading.{after, byte, at}

-- how far a byte stands out from the mean of itself and its neighbours right, below and right below
unfoldable pub detail : Plane → (size : ℕ × ℕ) → (x y : ℕ) → Float
detail p size x y =
    let right = after x size.0 in
    let below = after y size.1 in
    let sum = byte p x y + byte p right y + byte p x below + byte p right below in
    (float (byte p x y) ⊖ float sum ⊘ 4·0) ⊘ 255·0

-- whether two bytes and their details are the same, as far as the settings ask
unfoldable pub is_same : (change a b : Float) → Settings → Bool
is_same change a b s =
    let strength = max (abs a) (abs b) in
    (change ≼ s.limit) || ((s.edge ≺ strength) && (abs (a ⊖ b) ≼ s.tolerance ⊗ strength))

-- the Rust's `same` at a pixel
unfoldable pub same_at : (first second : Plane) → (size : ℕ × ℕ) → Settings → (x y : ℕ) → Bool
same_at first second size s x y =
    let change = float (apart (byte first x y) (byte second x y)) ⊘ 255·0 in
    is_same change (detail first size x y) (detail second size x y) s

-- the Rust's `full`: the four pixels that meet at a corner, held to the plane, are all the same
unfoldable pub full_corner : (first second : Plane) → (size : ℕ × ℕ) → Settings → (x y : ℕ) → Bool
full_corner first second size s x y =
    let same = same_at first second size s in
    let right = Nat.min x (size.0 - 1) in
    let below = Nat.min y (size.1 - 1) in
    same (x - 1) (y - 1) && same right (y - 1) && same (x - 1) below && same right below

-- 1 where one of the pixel's four corners is full
unfoldable pub still : (first second : Plane) → (size : ℕ × ℕ) → Settings → (x y : ℕ) → ℕ
still first second size s x y =
    let corner = full_corner first second size s in
    cond (corner x y || corner (x + 1) y || corner x (y + 1) || corner (x + 1) (y + 1)) 1 0

-- what it leaves in the slice that it fills
abbrev pub mask_leaves : MaskCall → List ℕ
mask_leaves c =
    let mark = still c.first c.second c.size c.settings in
    leaves (mask_refusal c) (tabulate (area c.size) (λ k. mark (k % c.size.0) (k / c.size.0))) c.still

-- how many mask cells a pixel has across
abbrev pub step_x : Mask → (size : ℕ × ℕ) → ℕ
step_x mask size = mask.width / size.0

-- and down
abbrev pub step_y : Mask → (size : ℕ × ℕ) → ℕ
step_y mask size = length mask.bytes / (mask.width * size.1)

-- how many in all
abbrev pub cells_of : Mask → (size : ℕ × ℕ) → ℕ
cells_of mask size = step_x mask size * step_y mask size

-- "the byte sum" of pixel (x, y)
unfoldable pub byte_sum : Mask → (size : ℕ × ℕ) → (x y : ℕ) → ℕ
byte_sum mask size x y =
    let sx = step_x mask size in
    let sy = step_y mask size in
    scan (λ dx dy n. n + get_or mask.bytes ((y * sy + dy) * mask.width + (x * sx + dx)) 0) (sx, sy) 0

-- "Apply mixes where 10 times the byte sum exceeds 4 times the cells"
unfoldable pub apply_rule : Frames → Mask → (size : ℕ × ℕ) → Rule
apply_rule f mask size =
    record {
      writes = λ x y. ltb (4 * cells_of mask size) (10 * byte_sum mask size x y);
      byte = λ x y old. pixel (mix (at f.first x y) (at f.second x y) f.time);
    }

-- what it leaves in the output
abbrev pub apply_leaves : ApplyCall → List ℕ
apply_leaves c = leaves (apply_refusal c) (painted (apply_rule c.frames c.mask c.size) c.size c.output) c.output.bytes

-- "(kept times (full - sum) + made times sum + full/2) / full, both divisions cut"
unfoldable pub weighed : (kept made sum full : ℕ) → ℕ
weighed kept made sum full = (kept * (full - sum) + made * sum + full / 2) / full

-- "where the byte sum is below full = 255 times the cells"
unfoldable pub hold_rule : (held : Plane) → Mask → (size : ℕ × ℕ) → Rule
hold_rule held mask size =
    let full = 255 * cells_of mask size in
    record {
      writes = λ x y. ltb (byte_sum mask size x y) full;
      byte = λ x y old. weighed (byte held x y) old (byte_sum mask size x y) full;
    }

-- what it leaves in the output
abbrev pub hold_leaves : HoldCall → List ℕ
hold_leaves c = leaves (hold_refusal c) (painted (hold_rule c.held c.mask c.size) c.size c.output) c.output.bytes
