-- What `painted` comes to byte by byte, and `counted` where a rule writes no less or the same, for any rule. Assumes
-- nothing.
use mathlib.Core.Path.{◌≡◌, refl, sym, ap, ◌∙◌}
use mathlib.Core.Logic.{⊎_elim}
use mathlib.Core.Bool.{Bool, true, false, cond}
use mathlib.Core.List.{List}
use Prim.Native.Nat.{ℕ, zero, suc, ◌+◌, ◌*◌, ◌/◌, ◌≤◌, ◌<◌}
use native.Mathlib.Nat.{eq-or-lt_of_le}
use native.Mathlib.Omega.{arith}
use lib.Arith.{digits_div}
use lib.Dec.{T}
use lib.ListN.{length, get_or, set, length-set}
use lib.Seq.{get_or-set_same, get_or-set_other}
use Rattle.rules.specs.Forms.{Plane, Rule, turns, scan_row, scan, stroke, painted, tally, counted}
use Rattle.laws.proofs.Lists.{turns_both, one_mono}

-- ---- turns that change bytes

module _ (step : ℕ → List ℕ → List ℕ) (keeps : (k : ℕ) (l : List ℕ) → length (step k l) ≡ length l) where
  length-turns : (n : ℕ) (l : List ℕ) → length (turns step n l) ≡ length l
  length-turns n l = turns_both {S' = ℕ} (λ a u. length a ≡ length l) step (λ k u. u) n (λ k below a u e. keeps k a ∙ e) l 0 refl

  module _ (j : ℕ) where
    -- byte j is as it was, if no turn changes it
    turns_other : (n : ℕ) → ((k : ℕ) → k < n → (l : List ℕ) → get_or (step k l) j 0 ≡ get_or l j 0) → (l : List ℕ) → get_or (turns step n l) j 0 ≡ get_or l j 0
    turns_other n h l = turns_both {S' = ℕ} (λ a u. get_or a j 0 ≡ get_or l j 0) step (λ k u. u) n (λ k below a u e. h k below a ∙ e) l 0 refl

    -- it is what turn i makes of it, if that turn alone changes it
    turns_at : (n i : ℕ) (f : ℕ → ℕ) → i < n → ((l : List ℕ) → j < length l → get_or (step i l) j 0 ≡ f (get_or l j 0))
        → ((k : ℕ) → (k ≡ i → ⊥) → (l : List ℕ) → get_or (step k l) j 0 ≡ get_or l j 0) → (l : List ℕ) → j < length l → get_or (turns step n l) j 0 ≡ f (get_or l j 0)
    unfolding turns
    turns_at zero i f below same other l inside = absurd (omega arith)
    turns_at (suc n) i f below same other l inside =
        ⊎_elim
        (λ e.
        let here : i ≡ n = omega arith in
        let h : j < length (turns step i l) = rw (length-turns i l) inside in
        rw (← here) (same (turns step i l) h ∙ ap f (turns_other i (λ k before. other k (λ e. omega arith)) l)))
        (λ lt. other n (λ e. omega arith) (turns step n l) ∙ turns_at n i f (omega arith) same other l inside)
        (eq-or-lt_of_le below)

-- ---- one pixel, one row, the plane

-- what a rule makes of the byte of a pixel
abbrev pub ruled : Rule → (x y old : ℕ) → ℕ
ruled rule x y old = cond (rule.writes x y) (rule.byte x y old) old

module _ (rule : Rule) (pitch : ℕ) where
  -- a stroke leaves the bytes, or sets one of them
  stroke_either : (P : List ℕ → Type 0) (y x : ℕ) (l : List ℕ) → ((v : ℕ) → P (set l (y * pitch + x) v)) → P l → P (stroke rule pitch x y l)
  unfolding stroke
  stroke_either P y x l sets leaves = go (rule.writes x y)
    where
      go : (b : Bool) → P (cond b (set l (y * pitch + x) (rule.byte x y (get_or l (y * pitch + x) 0))) l)
      go true = sets _
      go false = leaves

  stroke-length : (y x : ℕ) (l : List ℕ) → length (stroke rule pitch x y l) ≡ length l
  stroke-length y x l = stroke_either (λ a. length a ≡ length l) y x l (length-set l (y * pitch + x)) refl

  stroke_other : (y x j : ℕ) → (j ≡ y * pitch + x → ⊥) → (l : List ℕ) → get_or (stroke rule pitch x y l) j 0 ≡ get_or l j 0
  stroke_other y x j away l = stroke_either (λ a. get_or a j 0 ≡ get_or l j 0) y x l (λ v. get_or-set_other l (y * pitch + x) j v 0 away) refl

  stroke_at : (y x : ℕ) (l : List ℕ) → y * pitch + x < length l
      → get_or (stroke rule pitch x y l) (y * pitch + x) 0 ≡ ruled rule x y (get_or l (y * pitch + x) 0)
  unfolding stroke
  stroke_at y x l inside = go (rule.writes x y) _
    where
      go : (b : Bool) (v : ℕ) → get_or (cond b (set l (y * pitch + x) v) l) (y * pitch + x) 0 ≡ cond b v (get_or l (y * pitch + x) 0)
      go true v = get_or-set_same l (y * pitch + x) v 0 inside
      go false v = refl

  row_length : (width y : ℕ) (l : List ℕ) → length (scan_row (stroke rule pitch) y width l) ≡ length l
  unfolding scan_row
  row_length width y = length-turns _ (stroke-length y) width

  row_other : (width y j : ℕ) → ((x : ℕ) → x < width → j ≡ y * pitch + x → ⊥) → (l : List ℕ) → get_or (scan_row (stroke rule pitch) y width l) j 0 ≡ get_or l j 0
  unfolding scan_row
  row_other width y j away = turns_other _ (stroke-length y) j width (λ x across. stroke_other y x j (away x across))

  row_at : (width y x : ℕ) → x < width → (l : List ℕ) → y * pitch + x < length l
      → get_or (scan_row (stroke rule pitch) y width l) (y * pitch + x) 0 ≡ ruled rule x y (get_or l (y * pitch + x) 0)
  unfolding scan_row
  row_at width y x across =
      turns_at _ (stroke-length y) (y * pitch + x) width x (ruled rule x y) across (stroke_at y x)
      (λ k away. stroke_other y k (y * pitch + x) (λ e. away (omega arith)))

-- places in rows that are wide enough are one only where their rows are
one_row : (pitch x x' y y' : ℕ) → x < pitch → x' < pitch → y * pitch + x ≡ y' * pitch + x' → y ≡ y'
one_row pitch x x' y y' h h' e = sym (digits_div y h) ∙ ap (λ (k : ℕ). k / pitch) e ∙ digits_div y' h'

module _ (rule : Rule) (size : ℕ × ℕ) (p : Plane) where
  -- the length stays
  pub painted-length : length (painted rule size p) ≡ length p.bytes
  unfolding painted scan
  painted-length = length-turns _ (row_length rule p.pitch size.0) size.1 p.bytes

  -- a byte of no pixel of the plane, in the padding or the tail, is as it was
  pub painted_other : (j : ℕ) → ((x y : ℕ) → x < size.0 → y < size.1 → j ≡ y * p.pitch + x → ⊥) → get_or (painted rule size p) j 0 ≡ get_or p.bytes j 0
  unfolding painted scan
  painted_other j away =
      turns_other _ (row_length rule p.pitch size.0) j size.1
      (λ y down. row_other rule p.pitch size.0 y j (λ x across. away x y across down)) p.bytes

  -- a pixel's byte is what the rule makes of it
  pub painted_at : size.0 ≤ p.pitch → (x y : ℕ) → x < size.0 → y < size.1 → y * p.pitch + x < length p.bytes
      → get_or (painted rule size p) (y * p.pitch + x) 0 ≡ ruled rule x y (get_or p.bytes (y * p.pitch + x) 0)
  unfolding painted scan
  painted_at narrow x y across down =
      turns_at _ (row_length rule p.pitch size.0) (y * p.pitch + x) size.1 y (ruled rule x y) down (row_at rule p.pitch size.0 y x across)
      (λ k away. row_other rule p.pitch size.0 k (y * p.pitch + x)
      (λ x' across' e. away (sym (one_row p.pitch x x' y k (omega arith) (omega arith) e))))
      p.bytes

-- ---- the count

-- a rule that writes no less counts no less
pub counted_mono : (rule rule' : Rule) (size : ℕ × ℕ) → ((x y : ℕ) → x < size.0 → y < size.1 → T (rule.writes x y) → T (rule'.writes x y))
    → counted rule size ≤ counted rule' size
unfolding counted scan scan_row tally
counted_mono rule rule' size more =
    turns_both (λ a b. a ≤ b) _ _ size.1
    (λ y down. turns_both (λ a b. a ≤ b) _ _ size.0 (λ x across a b. one_mono (rule.writes x y) (rule'.writes x y) a b (more x y across down)))
    0 0 (omega arith)

-- a rule that writes the same pixels counts the same, whatever it writes there
pub counted_same : (rule rule' : Rule) (size : ℕ × ℕ) → ((x y : ℕ) → rule.writes x y ≡ rule'.writes x y) → counted rule size ≡ counted rule' size
unfolding counted scan scan_row tally
counted_same rule rule' size same =
    turns_both ◌≡◌ _ _ size.1 (λ y down. turns_both ◌≡◌ _ _ size.0 (λ x across a b e. rw (e, same x y))) 0 0 refl
