-- Tests of all numbers below a bound: what a chain, or a loop that stops at the first failure, answers.
use Rattle.std.proofs.Common.{◌≡◌, ℕ, Bool, List, length, get_or, ap, ◌∙◌, arith}
use Rattle.std.specs.Cmp.{both_ways}
use Rattle.std.specs.List.{list_all, range_with_len}
use Rattle.std.proofs.lemmas.List.{get_or_default}
use Rattle.std.proofs.lemmas.List.FromFn.{length-range_with_len, get_or-range_with_len}
use Rattle.std.proofs.lemmas.List.Sums.{AllPass-from_list_all, list_all-from_AllPass}
use Rattle.parity.specs.Below.{all_below}
use Rattle.parity.proofs.Below.{all_from, all_gives, all_cong}

pub all_listed : {X : Type 0} (p : X → Bool) (xs : List X) (d : X) → list_all p xs ≡ all_below (length xs) (λ k. p (get_or xs k d))
all_listed p xs d =
    both_ways _ _ (λ e. all_from _ _ (λ k k<. AllPass-from_list_all p xs e k d k<))
    (λ e. list_all-from_AllPass p xs (λ k d' k<. ap p (get_or_default xs k d' d k<) ∙ all_gives _ _ e k k<))

pub all_in_range : (n : ℕ) (f : ℕ → Bool) → list_all f (range_with_len 0 n) ≡ all_below n f
all_in_range n f =
    all_listed f (range_with_len 0 n) 0
    ∙ (ap (λ (m : ℕ). all_below m (λ k. f (get_or (range_with_len 0 n) k 0))) (length-range_with_len 0 n)
    ∙ all_cong n _ f (λ k k<. ap f (get_or-range_with_len 0 n k 0 k< ∙ omega arith)))
