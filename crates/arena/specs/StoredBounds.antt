-- A stored arena keeps the bounds: what the questions about its records give.
use Rattle.std.specs.Prelude.{◌≡◌, ℕ, ◌/◌, ◌<◌, ◌≤◌, Bool, true, false, cond, ◌&&◌, List, length, Ok, ◌==◌, nat_le, nat_lt, refl}
use Rattle.std.proofs.Common.{ap, subst, ◌∙◌, inl, inr, arith}
use Rattle.std.proofs.lemmas.Bool.{cases_lt, cond_both, cond-false, le-ltb, ltb-true, cond-true, lt-ltb, ltb-false, leb-true, and_parts, both_ways}
use Rattle.arena.specs.Bounds.{Bounds}
use Rattle.arena.specs.Known.{known_elsewhere}
use Rattle.arena.specs.Records.{owner_byte, zero_byte, stored_priority, target, answered, record_refusal, is_none}
use Rattle.arena.specs.Passed.{yes_passes}
use Rattle.arena.specs.Stored.{asked, stored_game, record_number}
use Rattle.arena.specs.declared.stored.RecordNumber.{RecordNumber}

-- a record that no question refuses
all_yes : (owner priority targets : Bool) → is_none (answered owner priority targets) ≡ true → (priority ≡ true) × (targets ≡ true)
all_yes true true true e = (refl, refl)
all_yes true true false e = (refl, e)
all_yes true false targets e = absurd (both_ways false refl e)
all_yes false priority targets e = absurd (both_ways false refl e)

module _ (b : List ℕ) (n : ℕ) (each : (v : ℕ) → v < n → is_none (record_refusal b n v) ≡ true) where
  passed : (v : ℕ) → v < n → (nat_le (stored_priority b v) 9999 ≡ true) × ((nat_lt (target b v 0) n && nat_lt (target b v 1) n) ≡ true)
  passed v v< = all_yes (nat_le (owner_byte b v) 1 && zero_byte b v == 0) (nat_le (stored_priority b v) 9999) (nat_lt (target b v 0) n && nat_lt (target b v 1) n) (each v v<)

  low : (v : ℕ) → v < n → stored_priority b v ≤ 9999
  low v v< = leb-true _ _ (passed v v<).0

  leads : (v i : ℕ) → v < n → i < 2 → target b v i < n
  leads v i v< i< =
      let both = and_parts (nat_lt (target b v 0) n) (nat_lt (target b v 1) n) (passed v v<).1 in
      elim (cases_lt i 1) [
        | inl l ↦ (let e : 0 ≡ i = omega arith in subst (λ k. target b v k < n) e (ltb-true _ _ both.0))
        | inr m ↦ (let e : 1 ≡ i = omega arith in subst (λ k. target b v k < n) e (ltb-true _ _ both.1))
      ]

  pub stored_bounds : 1 ≤ n → n ≤ 4096 → Bounds (stored_game b n)
  stored_bounds some few = record {
    some = some;
    few = omega arith;
    priorities = λ v. cond_both (nat_lt v n) (stored_priority b v) 0 (λ x. x ≤ 9999) (λ e. low v (ltb-true v n e)) (λ e. omega arith);
    moves = λ v h. cond_both (nat_lt v n) 2 0 (λ x. 1 ≤ x) (λ e. omega arith) (λ e. omega (arith, ltb-false v n e));
    limit = λ v. cond_both (nat_lt v n) 2 0 (λ x. x ≤ 16) (λ e. omega arith) (λ e. omega arith);
    inside = λ v i. cond_both (nat_lt v n) (cond (nat_lt i 2) (target b v i) 0) 0 (λ x. x < n) (λ e. cond_both (nat_lt i 2) (target b v i) 0 (λ x. x < n) (λ f. leads v i (ltb-true v n e) (ltb-true i 2 f)) (λ f. omega arith)) (λ e. omega arith);
    no_owner = λ v h. cond-false (nat_lt v n) _ _ (le-ltb v n h);
    no_priority = λ v h. cond-false (nat_lt v n) _ _ (le-ltb v n h);
    no_degree = λ v h. cond-false (nat_lt v n) _ _ (le-ltb v n h);
    no_successor = λ v i h. elim (cases_lt v n) [
      | inl l ↦ cond-true (nat_lt v n) _ _ (lt-ltb v n l) ∙ cond-false (nat_lt i 2) _ _ (le-ltb i 2 (subst (λ d. d ≤ i) (cond-true (nat_lt v n) 2 0 (lt-ltb v n l)) h))
      | inr m ↦ cond-false (nat_lt v n) _ _ (le-ltb v n m)
    ];
  }

-- the same of bytes about which every question was answered yes
pub bounds_asked : (b : List ℕ) → asked b ≡ Ok (length b / 8) → Bounds (stored_game b (length b / 8))
bounds_asked b all = let p = yes_passes b (length b / 8) all in stored_bounds b (length b / 8) p.each p.some p.few

-- the place of a number that is no vertex is that of vertex 0
pub stored_elsewhere : (n v : ℕ) → n ≤ v → record_number n v ≡ record_number n 0
stored_elsewhere n v h = ap numbered (known_elsewhere n v h)
  where
    numbered : ℕ → RecordNumber
    numbered k = record { number = k }
