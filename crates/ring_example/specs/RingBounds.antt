-- A ring keeps the bounds of an arena.
use Rattle.std.specs.Prelude.{◌≡◌, ℕ, ◌+◌, ◌%◌, ◌<◌, ◌≤◌, cond, ◌&&◌, ◌==◌, nat_lt}
use Rattle.std.proofs.Common.{ap, subst, ◌∙◌, inl, inr, arith}
use Rattle.std.proofs.lemmas.Bool.{cases_lt, lt-ltb, cond-true, cond_both, cond-false, le-ltb, ltb-true, ltb-false, ne_eqb, and_left}
use Rattle.arena.specs.Bounds.{Bounds}
use Rattle.arena.specs.Known.{known_elsewhere}
use Rattle.ring_example.specs.Ring.{ring_game, next, station}
use Rattle.ring_example.specs.declared.ring.Station.{Station}

next_inside : (n v : ℕ) → 1 ≤ n → next n v < n
next_inside n v h = cond_both (nat_lt (v + 1) n) (v + 1) 0 (λ x. x < n) (λ e. ltb-true (v + 1) n e) (λ e. omega arith)

pub ring_bounds : (n : ℕ) → 1 ≤ n → n ≤ 65535 → Bounds (ring_game n)
ring_bounds n some few = record {
  some = some;
  few = few;
  priorities = λ v. cond_both (nat_lt v n) (v % 7) 0 (λ x. x ≤ 9999) (λ e. omega arith) (λ e. omega arith);
  moves = λ v h. cond_both (nat_lt v n) 2 0 (λ x. 1 ≤ x) (λ e. omega arith) (λ e. omega (arith, ltb-false v n e));
  limit = λ v. cond_both (nat_lt v n) 2 0 (λ x. x ≤ 16) (λ e. omega arith) (λ e. omega arith);
  inside = λ v i. cond_both (nat_lt v n) (cond (i == 0) (next n v) (cond (i == 1) v 0)) 0 (λ x. x < n) (λ e. cond_both (i == 0) (next n v) (cond (i == 1) v 0) (λ x. x < n) (λ _. next_inside n v some) (λ _. cond_both (i == 1) v 0 (λ x. x < n) (λ _. ltb-true v n e) (λ _. omega arith))) (λ e. omega arith);
  no_owner = λ v h. cond-false (nat_lt v n && v % 2 == 1) _ _ (and_left _ _ (le-ltb v n h));
  no_priority = λ v h. cond-false (nat_lt v n) _ _ (le-ltb v n h);
  no_degree = λ v h. cond-false (nat_lt v n) _ _ (le-ltb v n h);
  no_successor = λ v i h. elim (cases_lt v n) [
    | inl l ↦ (let two : 2 ≤ i = subst (λ d. d ≤ i) (cond-true (nat_lt v n) 2 0 (lt-ltb v n l)) h in cond-true (nat_lt v n) _ _ (lt-ltb v n l) ∙ cond-false (i == 0) _ _ (ne_eqb i 0 (λ e. omega arith)) ∙ cond-false (i == 1) _ _ (ne_eqb i 1 (λ e. omega arith)))
    | inr m ↦ cond-false (nat_lt v n) _ _ (le-ltb v n m)
  ];
}

pub ring_elsewhere : (n v : ℕ) → n ≤ v → station n v ≡ station n 0
ring_elsewhere n v h = ap numbered (known_elsewhere n v h)
  where
    numbered : ℕ → Station
    numbered k = record { number = k }
