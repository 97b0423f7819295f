-- Tests of the numbers of a range: what a loop and a chain make of them.
use Rattle.std.proofs.Common.{◌≡◌, ℕ, ◌+◌, ◌<◌, ◌≤◌, Bool, true, false, ◌||◌, List, length, sym, refl, subst, Some, None, Option, unwrap_or, MatchOption, add-one, arith}
use Rattle.std.specs.Bool.{MatchBool}
use Rattle.std.specs.List.{range_with_len, AllWithin, HoldsAt}
use Rattle.std.proofs.lemmas.List.FromFn.{length-range_with_len, get_or-range_with_len}
use Rattle.parity.specs.Below.{some_below, all_below, least}
use Rattle.parity.proofs.Below.{some_from, all_from, none_below, not_all, least_is}

pub some_new : (n : ℕ) (f : ℕ → Bool) → f n ≡ true → some_below (n + 1) f ≡ true
some_new n f e = some_from (n + 1) f n (omega arith) e

pub some_same : (n : ℕ) (f : ℕ → Bool) → f n ≡ false → some_below (n + 1) f ≡ some_below n f
unfolding some_below
some_same n f e = rw (add-one, e) (or_none (some_below n f))
  where
    or_none : (x : Bool) → (x || false) ≡ x
    or_none true = refl
    or_none false = refl

pub some_none : (f : ℕ → Bool) → some_below 0 f ≡ false
unfolding some_below
some_none f = refl

-- what `any` and `all` answer of the numbers below n
module _ (n : ℕ) (f : ℕ → Bool) where
  abbrev below : List ℕ
  below = range_with_len 0 n

  there : (P : ℕ → Type 0) (k : ℕ) → k < n → HoldsAt P below k → P k
  there P k k< h = subst P (omega (arith, get_or-range_with_len 0 n k 0 k<)) (h 0)

  pub any_is : (r : Bool) → MatchBool r ((k : ℕ) × (k < length below) × HoldsAt (λ i. f i ≡ true) below k) (AllWithin (λ i. f i ≡ false) below 0 (length below)) → r ≡ some_below n f
  any_is true (k, k<, h) = sym (some_from n f k (omega (arith, length-range_with_len 0 n)) (there (λ i. f i ≡ true) k (omega (arith, length-range_with_len 0 n)) h))
  any_is false h = sym (none_below n f (λ k k<. there (λ i. f i ≡ false) k k< (λ d. h k d (omega arith) (omega (arith, length-range_with_len 0 n)))))

  pub all_is : (r : Bool) → MatchBool r (AllWithin (λ i. f i ≡ true) below 0 (length below)) ((k : ℕ) × (k < length below) × HoldsAt (λ i. f i ≡ false) below k) → r ≡ all_below n f
  all_is true h = sym (all_from n f (λ k k<. there (λ i. f i ≡ true) k k< (λ d. h k d (omega arith) (omega (arith, length-range_with_len 0 n)))))
  all_is false (k, k<, h) = sym (not_all n f k (omega (arith, length-range_with_len 0 n)) (there (λ i. f i ≡ false) k (omega (arith, length-range_with_len 0 n)) h))

  -- what `find` and `unwrap_or` answer of them
  pub first_is : (r : Option ℕ) → MatchOption r ((k : ℕ) → 0 ≤ k → k < n → f k ≡ false) (λ i. (0 ≤ i) × (i < n) × (f i ≡ true) × ((k : ℕ) → 0 ≤ k → k < i → f k ≡ false)) → unwrap_or r n ≡ least n f
  first_is None h = sym (least_is n f n (omega arith) (λ x. absurd (omega arith)) (λ k k<. h k (omega arith) k<))
  first_is (Some i) (_, i<, hit, miss) = sym (least_is n f i (omega arith) (λ _. hit) (λ k k<. miss k (omega arith) k<))
