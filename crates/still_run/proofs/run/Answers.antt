-- A byte is 255 at most.
use Rattle.std.proofs.Common.{rules, ◌≡◌, ℕ, ◌*◌, ◌≤◌, ◌<◌, List, length, sum, get_or, arith}
use Rattle.std.proofs.lemmas.List.Elements.{All-from_get_or}
use Rattle.std.proofs.lemmas.List.Sums.{sum_by-le}
use Rattle.still_run.proofs.run.Goals as goal

few : (bytes : List ℕ) → ((k : ℕ) → k < length bytes → get_or bytes k 0 ≤ 255) → sum bytes ≤ 255 * length bytes
few bytes each = omega (arith, sum_by-le (λ b. b) 255 bytes (All-from_get_or (λ b. b ≤ 255) bytes 0 each))

pub returns-clause-few : goal.returns-clause-few
returns-clause-few c =
    let whole : c.sum.result ≡ sum c.args.bytes.now = search rules in
    rw whole (few c.args.bytes.now (λ k h. omega (arith, (c.type_inv.bytes k).fits)))
