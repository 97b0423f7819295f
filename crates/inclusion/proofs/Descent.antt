-- No two falling lists of priorities can both go on for ever against the rule of pairs.
use Rattle.std.proofs.Common.{◌≡◌, ℕ, zero, suc, ◌+◌, ◌*◌, ◌%◌, ◌<◌, ◌≤◌, Bool, true, false, cond, ◌||◌, eqb, ap₂, inl, inr, arith}
use Rattle.std.proofs.lemmas.Bool.{cases_eq, cases_lt}
use Rattle.std.proofs.lemmas.Bool.Decides.{nat_tests}
use Rattle.parity.proofs.Parities.{parity}
use Rattle.inclusion.specs.PairGame.{pair_priority}

bit : (t : Bool) → cond t 0 1 ≤ 1
bit true = omega arith
bit false = omega arith

pub pair_low : (p q : ℕ) → p ≤ 1000 → q ≤ 1000 → pair_priority p q ≤ 4001
pair_low p q l l' = omega (arith, bit (eqb (p % 2) 1 || eqb (q % 2) 0))

pair_odd : (p q : ℕ) → p % 2 ≡ 0 → q % 2 ≡ 1 → pair_priority p q ≡ 2 * (p + q) + 1
pair_odd p q z o = grind (arith, nat_tests)

pair_least : (p q : ℕ) → 2 * (p + q) ≤ pair_priority p q
pair_least p q = omega arith

falls : (f : ℕ → ℕ) → ((i : ℕ) → f (suc i) ≤ f i) → (i j : ℕ) → i ≤ j → f j ≤ f i
falls f h i zero l = grind arith
falls f h i (suc j) l = grind (arith, cases_eq i (suc j), falls f h i j, h j)

-- of two falling lists, where the one is smaller the sum is
sum_falls : (f g : ℕ → ℕ) → ((i : ℕ) → f (suc i) ≤ f i) → ((i : ℕ) → g (suc i) ≤ g i) → (i j : ℕ) → f j < f i → f j + g j < f i + g i
sum_falls f g f-falls g-falls i j l =
    elim (cases_lt i j) [ inl k ↦ omega (arith, falls g g-falls i j (omega arith)) | inr k ↦ absurd (omega (arith, falls f f-falls j i k)) ]

-- an odd first priority, an even second one and an odd pair are each followed by a smaller one: then the sum falls for ever
module _ (p q : ℕ → ℕ) (p_falls : (i : ℕ) → p (suc i) ≤ p i) (q_falls : (i : ℕ) → q (suc i) ≤ q i)
    (odd-p : (i : ℕ) → p i % 2 ≡ 1 → (j : ℕ) × (p j < p i)) (even-q : (i : ℕ) → q i % 2 ≡ 0 → (j : ℕ) × (q j < q i))
    (odd-pair : (i : ℕ) → pair_priority (p i) (q i) % 2 ≡ 1 → (j : ℕ) × (pair_priority (p j) (q j) < pair_priority (p i) (q i))) where
  abbrev Smaller : ℕ → Type 0
  Smaller i = (j : ℕ) × (p j + q j < p i + q i)

  by_p : (i : ℕ) → p i % 2 ≡ 1 → Smaller i
  by_p i o = let r = odd-p i o in (r.0, sum_falls p q p_falls q_falls i r.0 r.1)

  by_q : (i : ℕ) → q i % 2 ≡ 0 → Smaller i
  by_q i z = let r = even-q i z in (r.0, omega (arith, sum_falls q p q_falls p_falls i r.0 r.1))

  -- where the sum is the same, both are
  settled : (i j : ℕ) → p i + q i ≡ p j + q j → (p i ≡ p j) × (q i ≡ q j)
  settled i j e = elim (cases_lt i j) [
    | inl k ↦ (let fp = falls p p_falls i j (omega arith) in let fq = falls q q_falls i j (omega arith) in (omega arith, omega arith))
    | inr k ↦ (let fp = falls p p_falls j i k in let fq = falls q q_falls j i k in (omega arith, omega arith))
  ]

  by_pair : (i : ℕ) → p i % 2 ≡ 0 → q i % 2 ≡ 1 → Smaller i
  by_pair i z o =
      let odd = pair_odd (p i) (q i) z o in
      let r = odd-pair i (omega arith) in
      let least = pair_least (p r.0) (q r.0) in
      elim (cases_lt (p r.0 + q r.0) (p i + q i)) [
        | inl l ↦ (r.0, l)
        | inr l ↦ absurd (let same = settled i r.0 (omega (arith, r.1)) in omega (arith, r.1, ap₂ pair_priority same.0 same.1))
      ]

  smaller : (i : ℕ) → Smaller i
  smaller i = elim (parity (p i)) [ inr o ↦ by_p i o | inl z ↦ elim (parity (q i)) [ inl y ↦ by_q i y | inr o ↦ by_pair i z o ] ]

  descent : (s i : ℕ) → p i + q i < s → ⊥
  descent zero i l = omega arith
  descent (suc s) i l = (let r = smaller i in descent s r.0 (omega (arith, r.1)))

  pub no_descent : ⊥
  no_descent = descent (suc (p 0 + q 0)) 0 (omega arith)
