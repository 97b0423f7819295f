-- The least of what a chain over the numbers of a range gives.
use Rattle.std.proofs.Common.{◌≡◌, ℕ, zero, suc, ◌+◌, ◌<◌, ◌≤◌, min, Bool, true, false, ◌⊎◌, List, map, Some, None, Option, MatchOption, sym, refl, inl, inr, arith}
use Rattle.std.specs.List.{range_with_len, filter, fold, reduce}
use Rattle.std.proofs.lemmas.Bool.{cases_Bool, both_ways}

-- a test of numbers, and what is compared of those that pass
module _ (test : ℕ → Bool) (h : ℕ → ℕ) where
  abbrev pub passing : ℕ → ℕ → List ℕ
  passing i n = map h (filter test (range_with_len i n))

  -- none of the n numbers from i on passes; m is at most h of each that passes; m is h of one that passes
  abbrev pub NonePasses : ℕ → ℕ → Type 0
  NonePasses i n = (k : ℕ) → i ≤ k → k < i + n → test k ≡ true → ⊥

  abbrev pub IsLow : ℕ → ℕ → ℕ → Type 0
  IsLow i n m = (k : ℕ) → i ≤ k → k < i + n → test k ≡ true → m ≤ h k

  abbrev pub IsMet : ℕ → ℕ → ℕ → Type 0
  IsMet i n m = (k : ℕ) × (i ≤ k) × (k < i + n) × (test k ≡ true) × (h k ≡ m)

  low_more : (i n m : ℕ) → IsLow (i + 1) n m → (test i ≡ true → m ≤ h i) → IsLow i (suc n) m
  low_more i n m low here k up k< e = grind (arith, low k)

  met_more : (i n m : ℕ) → IsMet (i + 1) n m → IsMet i (suc n) m
  met_more i n m (k, up, k<, e, is) = (k, omega arith, omega arith, e, is)

  folded : (a i n : ℕ) → (fold min a (passing i n) ≤ a) × IsLow i n (fold min a (passing i n)) × ((fold min a (passing i n) ≡ a) ⊎ IsMet i n (fold min a (passing i n)))
  folded a i zero = (omega arith, λ k up k< e. absurd (omega arith), inl refl)
  folded a i (suc n) = elim (cases_Bool (test i)) [
    | inl e ↦
        (let r = folded (min a (h i)) (i + 1) n in
        let m = fold min (min a (h i)) (passing (i + 1) n) in
        rw e (omega arith, low_more i n m r.1 (λ _. omega arith), grind (arith, r.2, met_more i n m)))
    | inr e ↦
        (let r = folded a (i + 1) n in
        let m = fold min a (passing (i + 1) n) in
        rw e (r.0, low_more i n m r.1 (λ f. absurd (both_ways _ e f)), grind (arith, r.2, met_more i n m)))
  ]

  pub least_passing : (i n : ℕ) → MatchOption (reduce min (passing i n)) (NonePasses i n) (λ m. IsLow i n m × IsMet i n m)
  least_passing i zero = λ k up k< e. omega arith
  least_passing i (suc n) = elim (cases_Bool (test i)) [
    | inl e ↦
        (let r = folded (h i) (i + 1) n in
        let m = fold min (h i) (passing (i + 1) n) in
        rw e (low_more i n m r.1 (λ _. r.0), elim r.2 [ inl is ↦ (i, omega arith, omega arith, e, sym is) | inr met ↦ met_more i n m met ]))
    | inr e ↦ rw e (skipped (reduce min (passing (i + 1) n)) e (least_passing (i + 1) n))
  ]
    where
      skipped : (r : Option ℕ) → test i ≡ false → MatchOption r (NonePasses (i + 1) n) (λ m. IsLow (i + 1) n m × IsMet (i + 1) n m) → MatchOption r (NonePasses i (suc n)) (λ m. IsLow i (suc n) m × IsMet i (suc n) m)
      skipped None e none = λ k up k< f. grind (arith, none k)
      skipped (Some m) e (low, met) = (low_more i n m low (λ f. absurd (both_ways _ e f)), met_more i n m met)
