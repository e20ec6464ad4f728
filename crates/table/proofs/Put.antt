-- Pieces that are put one after another, up to the whole slice. Assumes nothing.
use mathlib.Core.Path.{◌≡◌, refl, sym, ap, ◌∙◌}
use mathlib.Core.List.{List, [], ◌∷◌, ◌++◌, append_assoc, append-nil}
use Prim.Native.Nat.{ℕ, suc, ◌+◌, ◌≤◌, ◌<◌}
use native.Mathlib.Nat.{add-zero, add_assoc}
use native.Mathlib.Omega.{arith}
use borrow.Rule.Slice.PartMut.{put_mid, same_len_mid}
use lib.ListN.{length, set, take, drop, length-set, length-append, length-drop}
use lib.Seq.{take_all, take-suc-set, length-take-le}
use Rattle.std.proofs.lemmas.Slice.{take-put_mid}
use Rattle.rules.specs.Forms.{tabulate}
use Rattle.laws.proofs.Lists.{length-tabulate, tabulate_last}
use Rattle.table.specs.Put.{Put}

-- nothing yet
pub put_none : {A : Type 0} (l : List A) (at : ℕ) → Put l at [] l
put_none l at = record { done = rw (add-zero at) (sym (append-nil (take at l))); long = refl }

-- the same piece by another name
pub put_as : {A : Type 0} {before after piece piece' : List A} {at : ℕ} → Put before at piece after → piece ≡ piece' → Put before at piece' after
put_as done e = rw e at done

-- one piece after another
pub put_join : {A : Type 0} {before now after piece more : List A} {at next : ℕ} → Put before at piece now → next ≡ at + length piece → Put now next more after
    → Put before at (piece ++ more) after
put_join {before = before} {after = after} {piece = piece} {more = more} {at = at} a e b =
    record {
      done =
          rw (length-append piece more, ← add_assoc at (length piece) (length more), ← e)
          (b.done ∙ rw (e, a.done) (append_assoc (take at before) piece more));
      long = b.long ∙ a.long;
    }

-- one entry
pub put_one : {A : Type 0} {before after : List A} {at : ℕ} (v : A) → at < length before → after ≡ set before at v → Put before at (v ∷ []) after
put_one {before = before} {at = at} v inside e =
    record {
      done = let s : at + 1 ≡ suc at = omega arith in rw (e, s) (take-suc-set before at v inside);
      long = rw e (length-set before at v);
    }

-- an entry more
pub put_more : {A : Type 0} {before now after piece : List A} {at next : ℕ} (v : A) → Put before at piece now → next ≡ at + length piece → next < length now
    → after ≡ set now next v → Put before at (piece ++ v ∷ []) after
put_more v done e inside f = put_join done e (put_one v inside f)

-- a part of the slice is overwritten
pub put_part : {A : Type 0} (xs ys : List A) (at n : ℕ) → at + n ≤ length xs → length ys ≡ n → Put xs at ys (put_mid at n xs ys)
put_part xs ys at n inside long =
    record {
      done = take-put_mid at n xs ys (at + length ys) refl (omega arith);
      long = same_len_mid at n xs ys (omega (arith, length-take-le n (drop at xs) (omega (arith, length-drop at xs))));
    }

-- all of it: the slice is the piece
pub put_whole : {A : Type 0} {before after piece : List A} → Put before 0 piece after → length before ≡ length piece → after ≡ piece
put_whole {after = after} {piece = piece} p e =
    sym (take_all (0 + length piece) after (omega (arith, p.long, e))) ∙ p.done

-- ---- entry by entry, as f has them

pub table_none : {A : Type 0} (f : ℕ → A) (l : List A) (at : ℕ) → Put l at (tabulate 0 f) l
unfolding tabulate
table_none f l at = put_none l at

pub table_more : {A : Type 0} (f : ℕ → A) (k : ℕ) {before now after : List A} {at : ℕ} → Put before at (tabulate k f) now → at + k < length now → after ≡ set now (at + k) (f k)
    → Put before at (tabulate (k + 1) f) after
table_more f k {at = at} done inside e =
    put_as (put_more (f k) done (ap (λ (n : ℕ). at + n) (sym (length-tabulate k f))) inside e) (sym (tabulate_last k f))
