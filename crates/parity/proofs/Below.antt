-- Tests of the numbers below a bound.
use Rattle.std.proofs.Common.{◌≡◌, ℕ, zero, suc, ◌<◌, ◌≤◌, Bool, true, false, cond, ◌&&◌, Decides, sym, subst, refl, ap, ◌∙◌, ap₂, inl, inr, eq-or-lt_of_le, arith}
use Rattle.std.proofs.Math.Bool.{and_comm, or_comm}
use Rattle.std.proofs.lemmas.Bool.{cond-true, cond-false, both_ways, false_from_ne_true}
use Rattle.std.proofs.lemmas.Bool.Decides.{Decides-below_and, Decides-below_or}
use Rattle.parity.specs.Below.{some_below, all_below, least}

-- what holds of each number below n and of n
pub one_more : (P : ℕ → Type 0) (n : ℕ) → ((k : ℕ) → k < n → P k) → P n → (k : ℕ) → k < suc n → P k
one_more P n below here k l = let le : k ≤ n = omega arith in elim (eq-or-lt_of_le le) [ inl e ↦ subst P (sym e) here | inr less ↦ below k less ]

abbrev pub itself : (b : Bool) → Decides b (b ≡ true)
itself b = (λ e. e, λ e. e)

some_is : (f : ℕ → Bool) (n : ℕ) → Decides (some_below n f) ((k : ℕ) × (k < n) × (f k ≡ true))
unfolding some_below
some_is f = Decides-below_or f (λ k. f k ≡ true) (λ n. some_below n f) (λ k. itself (f k)) refl (λ n. or_comm (some_below n f) (f n))

all_is : (f : ℕ → Bool) (n : ℕ) → Decides (all_below n f) ((k : ℕ) → k < n → f k ≡ true)
unfolding all_below
all_is f = Decides-below_and f (λ k. f k ≡ true) (λ n. all_below n f) (λ k. itself (f k)) refl (λ n. and_comm (all_below n f) (f n))

pub some_gives : (n : ℕ) (f : ℕ → Bool) → some_below n f ≡ true → (k : ℕ) × (k < n) × (f k ≡ true)
some_gives n f = (some_is f n).0

pub some_from : (n : ℕ) (f : ℕ → Bool) (k : ℕ) → k < n → f k ≡ true → some_below n f ≡ true
some_from n f k h e = (some_is f n).1 (k, h, e)

pub all_gives : (n : ℕ) (f : ℕ → Bool) → all_below n f ≡ true → (k : ℕ) → k < n → f k ≡ true
all_gives n f = (all_is f n).0

pub all_from : (n : ℕ) (f : ℕ → Bool) → ((k : ℕ) → k < n → f k ≡ true) → all_below n f ≡ true
all_from n f = (all_is f n).1

pub some_decides : (n : ℕ) (f : ℕ → Bool) (P : ℕ → Type 0) → ((k : ℕ) → k < n → Decides (f k) (P k)) → Decides (some_below n f) ((k : ℕ) × (k < n) × P k)
some_decides n f P h = (λ e. let r = some_gives n f e in (r.0, r.1, (h r.0 r.1).0 r.2), λ r. some_from n f r.0 r.1 ((h r.0 r.1).1 r.2))

pub all_decides : (n : ℕ) (f : ℕ → Bool) (P : ℕ → Type 0) → ((k : ℕ) → k < n → Decides (f k) (P k)) → Decides (all_below n f) ((k : ℕ) → k < n → P k)
all_decides n f P h = (λ e k l. (h k l).0 (all_gives n f e k l), λ r. all_from n f (λ k l. (h k l).1 (r k l)))

pub least_is : (n : ℕ) (f : ℕ → Bool) (k : ℕ) → k ≤ n → (k < n → f k ≡ true) → ((j : ℕ) → j < k → f j ≡ false) → least n f ≡ k
unfolding least
least_is zero f k h hit miss = omega arith
least_is (suc n) f zero h hit miss = cond-true (f 0) 0 (suc (least n (λ k. f (suc k)))) (hit (omega arith))
least_is (suc n) f (suc k) h hit miss =
    cond-false (f 0) 0 (suc (least n (λ k. f (suc k)))) (miss 0 (omega arith))
    ∙ ap suc (least_is n (λ k. f (suc k)) k (omega arith) (λ l. hit (omega arith)) (λ j l. miss (suc j) (omega arith)))

pub least_le : (n : ℕ) (f : ℕ → Bool) → least n f ≤ n
unfolding least
least_le zero f = omega arith
least_le (suc n) f = grind (arith, least_le n (λ k. f (suc k)))

pub least_miss : (n : ℕ) (f : ℕ → Bool) (j : ℕ) → j < least n f → f j ≡ false
unfolding least
least_miss zero f j h = absurd (omega arith)
least_miss (suc n) f zero h = grind arith
least_miss (suc n) f (suc j) h = grind (arith, least_miss n (λ k. f (suc k)) j)

pub least_hit : (n : ℕ) (f : ℕ → Bool) → least n f < n → f (least n f) ≡ true
unfolding least
least_hit zero f h = absurd (omega arith)
least_hit (suc n) f h = grind (arith, least_hit n (λ k. f (suc k)))

-- where one number passes, the least passes, and is no larger
pub least_found : (n : ℕ) (f : ℕ → Bool) (k : ℕ) → k < n → f k ≡ true → (least n f ≤ k) × (f (least n f) ≡ true)
least_found n f k h e = grind (arith, least_miss n f k, least_hit n f)

pub least_cong : (n : ℕ) (f f' : ℕ → Bool) → ((k : ℕ) → k < n → f k ≡ f' k) → least n f ≡ least n f'
unfolding least
least_cong zero f f' h = refl
least_cong (suc n) f f' h =
    ap₂ (λ b k. cond b 0 (suc k)) (h 0 (omega arith)) (least_cong n (λ k. f (suc k)) (λ k. f' (suc k)) (λ k l. h (suc k) (omega arith)))

pub all_cong : (n : ℕ) (f f' : ℕ → Bool) → ((k : ℕ) → k < n → f k ≡ f' k) → all_below n f ≡ all_below n f'
unfolding all_below
all_cong zero f f' h = refl
all_cong (suc n) f f' h = ap₂ ◌&&◌ (all_cong n f f' (λ k l. h k (omega arith))) (h n (omega arith))

pub no_from : {P : Type 0} (r : Bool) → Decides r P → (P → ⊥) → r ≡ false
no_from r d n = false_from_ne_true r (λ e. n (d.0 e))

pub none_below : (n : ℕ) (f : ℕ → Bool) → ((k : ℕ) → k < n → f k ≡ false) → some_below n f ≡ false
none_below n f h = no_from _ (some_is f n) (λ r. both_ways _ (h r.0 r.1) r.2)

pub not_all : (n : ℕ) (f : ℕ → Bool) (k : ℕ) → k < n → f k ≡ false → all_below n f ≡ false
not_all n f k h e = no_from _ (all_is f n) (λ all. both_ways _ e (all k h))
