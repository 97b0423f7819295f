-- The steps of a repeating word, folded into those of its prefix and one period.
use Rattle.std.proofs.Common.{◌≡◌, ℕ, zero, suc, ◌+◌, ◌-◌, ◌%◌, ◌<◌, ◌≤◌, eqb, ltb, List, length, get_or, sym, refl, ap, ◌∙◌, inl, inr, mod-eq_of_lt, arith}
use Rattle.std.proofs.Math.Nat.{mod_self, suc-mod, zero-mod}
use Rattle.std.proofs.lemmas.Bool.{cases_lt, cases_eq, le-ltb, eq-eqb, ne_eqb, cond-true, cond-false, cond_both, ltb-true}
use Rattle.std.proofs.lemmas.Bool.Decides.{nat_tests}
use Rattle.std.proofs.lemmas.Nat.{mod_below}
use Rattle.runs.specs.Word.{letter, Readable}
use Rattle.runs.specs.WordGame.{next_step}

module _ (prefix period : List ℕ) where
  -- the step that stands for step i of the unending word
  unfoldable pub fold : ℕ → ℕ
  fold zero = 0
  fold (suc i) = next_step prefix period (fold i)

  module _ (some : 0 < length period) where
    abbrev p : ℕ
    p = length prefix

    abbrev n : ℕ
    n = length period

    next_on : (k : ℕ) → suc k < p + n → next_step prefix period k ≡ suc k
    next_on k l = cond-false (eqb (suc k) (p + n)) p (suc k) (ne_eqb _ _ (omega arith))

    next_last : (k : ℕ) → suc k ≡ p + n → next_step prefix period k ≡ p
    next_last k e = cond-true (eqb (suc k) (p + n)) p (suc k) (eq-eqb _ _ e)

    pub next_in : (k : ℕ) → k < p + n → next_step prefix period k < p + n
    next_in k k< = grind (arith, nat_tests)

    pub fold_in : (i : ℕ) → fold i < p + n
    unfolding fold
    fold_in zero = omega arith
    fold_in (suc i) = next_in (fold i) (fold_in i)

    early : (i : ℕ) → i ≤ p → fold i ≡ i
    unfolding fold
    early zero l = refl
    early (suc i) l = ap (next_step prefix period) (early i (omega arith)) ∙ next_on i (omega arith)

    late : (j : ℕ) → fold (p + j) ≡ p + j % n
    unfolding fold
    late zero =
        let e : p + 0 ≡ p = omega arith in
        let f : p ≡ p + 0 % n = omega (arith, zero-mod n) in
        ap fold e ∙ early p (omega arith) ∙ f
    late (suc j) =
        let e : p + suc j ≡ suc (p + j) = omega arith in
        let s = suc-mod j n in
        let b = mod_below j n some in
        ap fold e ∙ ap (next_step prefix period) (late j)
        ∙ elim (cases_eq (suc (j % n)) n) [
          | inl l ↦ (let f : p ≡ p + suc j % n = omega (arith, ap (λ k. k % n) l, mod_self n) in next_last (p + j % n) (omega arith) ∙ f)
          | inr l ↦ (let h : suc (j % n) < n = omega arith in let f : suc (p + j % n) ≡ p + suc j % n = omega (arith, mod-eq_of_lt h) in next_on (p + j % n) (omega arith) ∙ f)
        ]

    pub letter_late : (k : ℕ) → p ≤ k → letter prefix period k ≡ get_or period ((k - p) % n) 0
    letter_late k l = cond-false (ltb k p) _ _ (le-ltb k p l)

    -- the letter of the step that stands for step i is letter i
    pub letter_same : (i : ℕ) → letter prefix period (fold i) ≡ letter prefix period i
    letter_same i = elim (cases_lt i p) [ inl l ↦ ap (letter prefix period) (early i (omega arith)) | inr l ↦ on l ]
      where
        on : p ≤ i → letter prefix period (fold i) ≡ letter prefix period i
        on l =
            let j = i - p in
            let e : i ≡ p + j = omega arith in
            let f : fold i ≡ p + j % n = ap fold e ∙ late j in
            let b = mod_below j n some in
            let back : p + j % n - p ≡ j % n = omega arith in
            ap (letter prefix period) f ∙ letter_late (p + j % n) (omega arith) ∙ ap (λ k. get_or period (k % n) 0) back
            ∙ ap (λ k. get_or period k 0) (mod-eq_of_lt b) ∙ sym (letter_late i l)

  pub letter_in : (letters : ℕ) → Readable letters prefix period → (k : ℕ) → letter prefix period k < letters
  letter_in letters r k =
      cond_both (ltb k (length prefix)) _ _ (λ c. c < letters) (λ t. r.prefix_in k (ltb-true k (length prefix) t)) (λ _. r.period_in _ (mod_below _ (length period) r.some))
