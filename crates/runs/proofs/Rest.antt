-- The rest of the piece that holds letter k holds the letters of the word from k on.
use Rattle.std.proofs.Common.{◌≡◌, ℕ, ◌+◌, ◌-◌, ◌%◌, ◌<◌, ◌≤◌, ltb, List, length, get_or, drop, sym, ap, ◌∙◌, mod-eq_of_lt, arith}
use Rattle.std.proofs.Math.Nat.{mod-add-mod}
use Rattle.std.proofs.lemmas.Bool.{lt-ltb, ltb-true, ltb-false, cond-true, cond_both}
use Rattle.std.proofs.lemmas.Nat.{mod_below}
use Rattle.std.proofs.lemmas.List.{length-drop, get_or-drop}
use Rattle.runs.specs.Word.{letter}
use Rattle.runs.specs.Step.{step, StepIsRest}
use Rattle.runs.proofs.Folds.{letter_late}

module _ (prefix period : List ℕ) (some : 0 < length period) where
  abbrev p : ℕ
  p = length prefix

  abbrev n : ℕ
  n = length period

  abbrev Rest : ℕ → List ℕ → Type 0
  Rest k l = (0 < length l) × ((j : ℕ) → j < length l → get_or l j 0 ≡ letter prefix period (k + j))

  in_prefix : (k : ℕ) → k < p → Rest k (drop k prefix)
  in_prefix k l =
      let e = length-drop k prefix in
      (omega arith, λ j h. get_or-drop k prefix j 0 ∙ sym (cond-true (ltb (k + j) p) _ _ (lt-ltb (k + j) p (omega arith))))

  in_period : (k : ℕ) → p ≤ k → Rest k (drop ((k - p) % n) period)
  in_period k l =
      let m = (k - p) % n in
      let b = mod_below (k - p) n some in
      let e = length-drop m period in (
        omega arith,
        λ j h.
            let split : (m + j) % n ≡ (k - p + j) % n = mod-add-mod (k - p) n j in
            let small : m + j < n = omega arith in
            let same : (k + j) - p ≡ k - p + j = omega arith in
            get_or-drop m period j 0 ∙ ap (λ i. get_or period i 0) (sym (mod-eq_of_lt small) ∙ split ∙ ap (λ i. i % n) (sym same)) ∙ sym (letter_late prefix period some (k + j) (omega arith)),
      )

  pub rest : (k : ℕ) → Rest k (step prefix period k)
  rest k = cond_both (ltb k p) (drop k prefix) (drop ((k - p) % n) period) (Rest k) (λ t. in_prefix k (ltb-true k p t)) (λ t. in_period k (ltb-false k p t))

pub step_is_rest : StepIsRest
step_is_rest prefix period k some = rest prefix period some k
