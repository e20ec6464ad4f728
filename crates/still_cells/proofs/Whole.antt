-- A quotient is whole where nothing is left of the division, by one side or by two in turn. Assumes nothing.
use mathlib.Core.Path.{◌≡◌, refl}
use mathlib.Core.Bool.{true, ◌&&◌}
use Prim.Native.Nat.{ℕ, zero, suc, ◌+◌, ◌*◌, ◌/◌, ◌%◌}
use native.Mathlib.Nat.{div-add-mod, div-div-eq-div-mul, mul-add, mul_assoc, mul-zero, div-zero, zero-mod}
use native.Mathlib.Omega.{arith}
use borrow.Author.Tests.{eqb-true, eq-eqb}
use lib.Dec.{eqb}
use Rattle.std.proofs.lemmas.Bool.{and_parts}
use Rattle.plane.proofs.Laws.{tests_same}
use Rattle.still_pass.proofs.Accepted.{and_true}

pub exact : (side whole : ℕ) → eqb (whole % side) 0 ≡ eqb (side * (whole / side)) whole
exact side whole =
    let d = div-add-mod whole side in
    tests_same (eqb (whole % side) 0) (eqb (side * (whole / side)) whole)
    (λ t. let z = eqb-true (whole % side) 0 t in eq-eqb (side * (whole / side)) whole (omega arith))
    (λ t. let z = eqb-true (side * (whole / side)) whole t in eq-eqb (whole % side) 0 (omega arith))

-- of a product that is 0: a factor that is 0 where the other is, is 0
no_rest : (a r : ℕ) → (a ≡ 0 → r ≡ 0) → a * r ≡ 0 → r ≡ 0
no_rest zero r f e = f refl
no_rest (suc a) r f e = omega arith

module _ (a b n : ℕ) where
  -- what is left of the division by both sides
  split : a * b * (n / (a * b)) + (a * (n / a % b) + n % a) ≡ n
  split =
      let inner = div-add-mod (n / a) b in
      let e : a * (b * (n / a / b) + n / a % b) ≡ a * (n / a) = rw inner in
      let m = rw (mul-add a (b * (n / a / b)) (n / a % b), ← mul_assoc a b (n / a / b), div-div-eq-div-mul n a b) at e in
      omega (arith, div-add-mod n a)

  gone : a ≡ 0 → n / a % b ≡ 0
  gone z = rw (z, div-zero, zero-mod)

  pub exact_both : (eqb (n % a) 0 && eqb (n / a % b) 0) ≡ eqb (a * b * (n / (a * b))) n
  exact_both = tests_same (eqb (n % a) 0 && eqb (n / a % b) 0) (eqb (a * b * (n / (a * b))) n) there back
    where
      there : (eqb (n % a) 0 && eqb (n / a % b) 0) ≡ true → eqb (a * b * (n / (a * b))) n ≡ true
      there t =
          let p = and_parts (eqb (n % a) 0) (eqb (n / a % b) 0) t in
          let x = eqb-true (n % a) 0 p.0 in
          let y = eqb-true (n / a % b) 0 p.1 in
          let z : a * (n / a % b) ≡ 0 = rw (y, mul-zero) in
          eq-eqb (a * b * (n / (a * b))) n (omega (arith, split))

      back : eqb (a * b * (n / (a * b))) n ≡ true → (eqb (n % a) 0 && eqb (n / a % b) 0) ≡ true
      back t =
          let z = eqb-true (a * b * (n / (a * b))) n t in
          let none : a * (n / a % b) ≡ 0 = omega (arith, split) in
          and_true (eqb (n % a) 0) (eqb (n / a % b) 0)
          (eq-eqb (n % a) 0 (omega (arith, split)))
          (eq-eqb (n / a % b) 0 (no_rest a (n / a % b) gone none))
