-- What the tests of a walk say in numbers. Assumes nothing.
use mathlib.Core.Path.{◌≡◌, refl, sym, ◌∙◌}
use mathlib.Core.Bool.{Bool, true, false, not, ◌&&◌, ◌||◌, false≢true}
use mathlib.Core.Logic.{◌⊎◌, inl, inr}
use Prim.Native.Nat.{ℕ, ◌+◌, ◌-◌, ◌*◌, ◌≤◌, ◌<◌}
use native.Mathlib.Omega.{arith}
use borrow.Author.Tests.{leb-true, leb-false, ltb-true, eqb-true, le-leb, lt-ltb, eq-eqb, not-true}
use lib.Dec.{leb, ltb, eqb}
use Rattle.std.proofs.lemmas.Bool.{and_parts, or_cases}
use Rattle.rules.specs.declared.Walk.{Walk}
use Rattle.rules.specs.Walk.{chunks, is_complete, is_ready, is_due, is_left, is_turn}

-- a layer that is ready: there is one, and its next chunk is complete or the clip is
pub record Ready (pairs added c : ℕ) : Type 0 where
  pub exists : c < chunks pairs
  pub complete : (12 * (c + 2) ≤ added) ⊎ (added ≡ pairs)

pub ready_in : (pairs added c : ℕ) → is_ready pairs added c ≡ true → Ready pairs added c
ready_in pairs added c e =
    let t = and_parts (ltb c (chunks pairs)) (is_complete added (c + 1) || eqb added pairs) e in
    record { exists = ltb-true c (chunks pairs) t.0; complete = either (or_cases (is_complete added (c + 1)) (eqb added pairs) t.1) }
  where
    either : (is_complete added (c + 1) ≡ true) ⊎ (eqb added pairs ≡ true) → (12 * (c + 2) ≤ added) ⊎ (added ≡ pairs)
    either (inl l) = inl (omega (arith, leb-true (12 * (c + 1 + 1)) added l))
    either (inr r) = inr (eqb-true added pairs r)

pub ready_out : (pairs added c : ℕ) → Ready pairs added c → is_ready pairs added c ≡ true
ready_out pairs added c r = rw (lt-ltb c (chunks pairs) r.exists) (either r.complete)
  where
    right : (a : Bool) → (a || true) ≡ true
    right true = refl
    right false = refl

    either : (12 * (c + 2) ≤ added) ⊎ (added ≡ pairs) → (is_complete added (c + 1) || eqb added pairs) ≡ true
    either (inl l) = rw (le-leb (12 * (c + 1 + 1)) added (omega (arith, l)))
    either (inr r) = rw (eq-eqb added pairs r) (right (is_complete added (c + 1)))

-- a walk that calls can leave
pub record Left (w : Walk) : Type 0 where
  pub inside : w.added ≤ w.pairs
  pub last : (w.taken ≡ 0) ⊎ Ready w.pairs w.added (w.taken - 1)
  pub next : (w.added ≡ 0) ⊎ (Ready w.pairs (w.added - 1) w.taken → ⊥)

pub left_in : (w : Walk) → is_left w ≡ true → Left w
left_in w e =
    let first = leb w.added w.pairs in
    let second : Bool = eqb w.taken 0 || is_ready w.pairs w.added (w.taken - 1) in
    let third : Bool = eqb w.added 0 || not (is_ready w.pairs (w.added - 1) w.taken) in
    let t = and_parts (first && second) third e in
    let u = and_parts first second t.0 in
    record { inside = leb-true _ _ u.0; last = last (or_cases _ _ u.1); next = next (or_cases _ _ t.1) }
  where
    last : (eqb w.taken 0 ≡ true) ⊎ (is_ready w.pairs w.added (w.taken - 1) ≡ true) → (w.taken ≡ 0) ⊎ Ready w.pairs w.added (w.taken - 1)
    last (inl l) = inl (eqb-true _ _ l)
    last (inr r) = inr (ready_in _ _ _ r)

    next : (eqb w.added 0 ≡ true) ⊎ (not (is_ready w.pairs (w.added - 1) w.taken) ≡ true)
        → (w.added ≡ 0) ⊎ (Ready w.pairs (w.added - 1) w.taken → ⊥)
    next (inl l) = inl (eqb-true _ _ l)
    next (inr r) = inr (λ h. false≢true (sym (not-true _ r) ∙ ready_out _ _ _ h))

-- it took no more layers than the clip has chunks, so no more than it has pairs
pub few_layers : (w : Walk) → is_left w ≡ true → w.taken ≤ w.pairs
few_layers w e = go (left_in w e).last
  where
    go : (w.taken ≡ 0) ⊎ Ready w.pairs w.added (w.taken - 1) → w.taken ≤ w.pairs
    go (inl z) = omega arith
    go (inr r) = omega (arith, r.exists)

pub left_out : (w : Walk) → Left w → is_left w ≡ true
left_out w l = rw (le-leb w.added w.pairs l.inside, last l.last, next l.next)
  where
    last : (w.taken ≡ 0) ⊎ Ready w.pairs w.added (w.taken - 1) → (eqb w.taken 0 || is_ready w.pairs w.added (w.taken - 1)) ≡ true
    last (inl z) = rw (eq-eqb w.taken 0 z)
    last (inr r) = rw (ready_out _ _ _ r) (right (eqb w.taken 0))
      where
        right : (a : Bool) → (a || true) ≡ true
        right true = refl
        right false = refl

    next : (w.added ≡ 0) ⊎ (Ready w.pairs (w.added - 1) w.taken → ⊥) → (eqb w.added 0 || not (is_ready w.pairs (w.added - 1) w.taken)) ≡ true
    next (inl z) = rw (eq-eqb w.added 0 z)
    next (inr f) = go (is_ready w.pairs (w.added - 1) w.taken) (λ e. f (ready_in _ _ _ e)) (eqb w.added 0)
      where
        go : (t : Bool) → (t ≡ true → ⊥) → (a : Bool) → (a || not t) ≡ true
        go true f a = absurd (f refl)
        go false f true = refl
        go false f false = refl

-- a layer that is due, by the pairs that were added: all of its own chunk's and, where there is a next chunk, of that
-- one's; and none of a chunk behind these
pub record Due (w : Walk) : Type 0 where
  pub inside : w.added ≤ w.pairs
  pub exists : w.taken < chunks w.pairs
  pub complete : (12 * (w.taken + 2) ≤ w.added) ⊎ (w.added ≡ w.pairs)
  pub begun : 12 * w.taken < w.added
  pub few : w.added ≤ 12 * (w.taken + 2)

pub due_in : (w : Walk) → (is_left w && is_due w) ≡ true → Due w
due_in w e =
    let t = and_parts (is_left w) (is_due w) e in
    let l = left_in w t.0 in
    let r = ready_in w.pairs w.added w.taken t.1 in
    record {
      inside = l.inside;
      exists = r.exists;
      complete = r.complete;
      begun = begun r.exists r.complete;
      few = few r.exists l.next;
    }
  where
    begun : w.taken < chunks w.pairs → (12 * (w.taken + 2) ≤ w.added) ⊎ (w.added ≡ w.pairs) → 12 * w.taken < w.added
    begun h (inl a) = omega arith
    begun h (inr a) = omega arith

    few : w.taken < chunks w.pairs → (w.added ≡ 0) ⊎ (Ready w.pairs (w.added - 1) w.taken → ⊥) → w.added ≤ 12 * (w.taken + 2)
    few h (inl z) = omega arith
    few h (inr f) = go (leb w.added (12 * (w.taken + 2))) (leb-true _ _) (leb-false _ _)
      where
        go : (t : Bool) → (t ≡ true → w.added ≤ 12 * (w.taken + 2)) → (t ≡ false → 12 * (w.taken + 2) < w.added) → w.added ≤ 12 * (w.taken + 2)
        go true a b = a refl
        go false a b = let k = b refl in absurd (f (record { exists = h; complete = inl (omega (arith, k)) }))

-- a pair's turn
pub record Turn (w : Walk) (number : ℕ) : Type 0 where
  pub left : is_left w ≡ true
  pub own : number ≡ w.added
  pub more : w.added < w.pairs
  pub none : is_due w ≡ false

pub turn_in : (w : Walk) (number : ℕ) → is_turn w number ≡ true → Turn w number
turn_in w number e =
    let t = and_parts (is_left w && eqb number w.added && ltb w.added w.pairs) (not (is_due w)) e in
    let u = and_parts (is_left w && eqb number w.added) (ltb w.added w.pairs) t.0 in
    let v = and_parts (is_left w) (eqb number w.added) u.0 in
    record { left = v.0; own = eqb-true _ _ v.1; more = ltb-true _ _ u.1; none = not-true _ t.1 }
