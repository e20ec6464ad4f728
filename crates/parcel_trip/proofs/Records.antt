-- A run of records, split again: the same records, and nothing behind them. Assumes nothing.
use mathlib.Core.Path.{◌≡◌, refl, sym, ap, ◌∙◌}
use mathlib.Core.List.{List, [], ◌∷◌, ◌++◌}
use Prim.Native.Nat.{ℕ, zero, suc, ◌+◌, ◌-◌, ◌*◌, ◌/◌, ◌%◌, ◌≤◌, ◌<◌}
use native.Mathlib.Omega.{arith}
use borrow.Author.Tests.{le-leb}
use lib.ListN.{length, take, drop, length-append, length-drop}
use lib.Seq.{take-append_seam, drop-append_seam, drop-drop}
use Rattle.rules.specs.Host.{little}
use Rattle.rules.specs.Parcel.{Record, in_bytes, record_bytes, run_bytes, length_at, split}
use Rattle.laws.proofs.Bytes.{joined}

-- a record's numbers fit the bytes that they are written in
pub record Fits (r : Record) : Type 0 where
  pub short : length r.payload < 4294967296
  pub known : r.kind < 65536

-- so those of each record of a list
pub data AllFit : List Record → Type 0 where
  none : AllFit []
  more : {r : Record} {rest : List Record} → Fits r → AllFit rest → AllFit (r ∷ rest)

-- four bytes of a number below 2^32
joined_four : (n : ℕ) → n < 4294967296 → n % 256 + 256 * (n / 256 % 256 + 256 * (n / 256 / 256 % 256 + 256 * (n / 256 / 256 / 256 % 256))) ≡ n
joined_four n small = omega arith

-- bytes that begin with a record's six bytes and its payload are split after it
split_after : (n : ℕ) (bytes : List ℕ) (r : Record) (rest : List ℕ) → length_at bytes ≡ length r.payload → little 2 bytes 4 ≡ r.kind
    → drop 6 bytes ≡ r.payload ++ rest → 6 ≤ length bytes → split (suc n) bytes ≡ (r ∷ (split n rest).0, (split n rest).1)
unfolding split
split_after n bytes r rest long kind behind six =
    let size = length r.payload in
    let left : length bytes - 6 ≡ size + length rest = sym (length-drop 6 bytes) ∙ ap length behind ∙ length-append r.payload rest in
    let enough = le-leb 6 (length bytes) six in
    let room = le-leb size (size + length rest) (omega arith) in
    let payload : take size (drop 6 bytes) ≡ r.payload = rw behind (take-append_seam r.payload rest) in
    let next : drop (6 + size) bytes ≡ rest = sym (drop-drop size 6 bytes) ∙ rw behind (drop-append_seam r.payload rest) in
    rw (long, kind, enough, left, room, payload, next)

split_record : (n : ℕ) (r : Record) (rest : List ℕ) → Fits r → split (suc n) (record_bytes r ++ rest) ≡ (r ∷ (split n rest).0, (split n rest).1)
unfolding in_bytes
split_record n r rest f =
    split_after n (record_bytes r ++ rest) r rest (joined_four (length r.payload) f.short) (joined r.kind f.known) refl (omega arith)

-- a run of records is split into them
pub split_run : (list : List Record) → AllFit list → (n : ℕ) → length list ≤ n → split n (run_bytes list) ≡ (list, [])
unfolding run_bytes split
split_run [] f zero h = refl
split_run [] f (suc n) h = refl
split_run (r ∷ rest) f zero h = absurd (omega arith)
split_run (r ∷ rest) (more f later) (suc n) h = split_record n r (run_bytes rest) f ∙ rw (split_run rest later n (omega arith))

-- and it has no fewer bytes than records
no_fewer : (list : List Record) → length list ≤ length (run_bytes list)
unfolding run_bytes in_bytes
no_fewer [] = omega arith
no_fewer (r ∷ rest) = omega (arith, no_fewer rest, length-append r.payload (run_bytes rest))

-- so all that a parcel's readers split is its records
pub split_whole : (list : List Record) → AllFit list → split (length (run_bytes list)) (run_bytes list) ≡ (list, [])
split_whole list f = split_run list f (length (run_bytes list)) (no_fewer list)
