-- How many numbers below n pass a test.
use Rattle.std.proofs.Common.{◌≡◌, ℕ, zero, suc, ◌+◌, ◌<◌, ◌≤◌, Bool, true, false, cond, ◌⊎◌, refl, inl, inr, arith}
use Rattle.std.proofs.lemmas.Bool.{cases_eq}

one : Bool → ℕ
one b = cond b 1 0

-- 1 for a test that passes, else 0
one_is : (b : Bool) → ((b ≡ true) × (one b ≡ 1)) ⊎ ((b ≡ false) × (one b ≡ 0))
unfolding one
one_is true = inl (refl, refl)
one_is false = inr (refl, refl)

pub size : ℕ → (ℕ → Bool) → ℕ
size zero f = 0
size (suc n) f = size n f + one (f n)

pub size_le : (n : ℕ) (f : ℕ → Bool) → size n f ≤ n
unfolding size
size_le zero f = omega arith
size_le (suc n) f = grind (arith, one_is (f n), size_le n f)

pub size_mono : (n : ℕ) (f f' : ℕ → Bool) → ((k : ℕ) → k < n → f k ≡ true → f' k ≡ true) → size n f ≤ size n f'
unfolding size
size_mono zero f f' h = omega arith
size_mono (suc n) f f' h = grind (arith, one_is (f n), one_is (f' n), size_mono n f f' (λ k l. h k (omega arith)), h n (omega arith))

pub size_more : (n : ℕ) (f f' : ℕ → Bool) → ((k : ℕ) → k < n → f k ≡ true → f' k ≡ true) → (k : ℕ) → k < n → f k ≡ false → f' k ≡ true → size n f < size n f'
unfolding size
size_more zero f f' h k l no' yes' = absurd (omega arith)
size_more (suc n) f f' h k l no' yes' =
    let below = λ (j : ℕ) (less : j < n). h j (omega arith) in
    grind (arith, one_is (f n), one_is (f' n), cases_eq k n, size_mono n f f' below, size_more n f f' below k, h n (omega arith))

pub size_full : (n : ℕ) (f : ℕ → Bool) → n ≤ size n f → (k : ℕ) → k < n → f k ≡ true
unfolding size
size_full zero f h k l = absurd (omega arith)
size_full (suc n) f h k l = grind (arith, one_is (f n), cases_eq k n, size_le n f, size_full n f)
