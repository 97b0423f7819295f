-- The test of stratification holds exactly of the stratified automata.
use Rattle.std.proofs.Common.{◌≡◌, ℕ, zero, suc, ◌<◌, ◌≤◌, Bool, true, ◌&&◌, eqb, ◌⊎◌, Some, None, Option, sym, refl, ap, ◌∙◌, inl, inr, arith}
use Rattle.std.proofs.lemmas.Bool.{cases_lt, and_parts, and_from, or_cases, leb-true, le-leb, eqb-true}
use Rattle.parity.proofs.Below.{all_gives, all_from}
use Rattle.draft.specs.declared.parts.Node.{Node}
use Rattle.draft.specs.declared.parts.Node.TheVariants.{Leaf, Either, Both}
use Rattle.draft.specs.Automaton.{Automaton, state_count, priority_of, rule_of, node_of}
use Rattle.draft.specs.WellFormed.{WellFormed, is_child}
use Rattle.draft.proofs.Children.{left_child, right_child}
use Rattle.draft.proofs.NoRule.{rule_past_state}
use Rattle.inclusion.specs.Stratified.{NamedBelow, at_leaf, at_child, node_low, low_to, rule_low, state_low, is_stratified, StratifiedTested}

module _ (a : Automaton) (w : WellFormed a) (b : ℕ) where
  one_low : (low : ℕ → Bool) (y l r : ℕ) → (eqb y l ≡ true) ⊎ (eqb y r ≡ true) → (low l && low r) ≡ true → low y ≡ true
  one_low low y l r (inl e) t = ap low (eqb-true y l e) ∙ (and_parts (low l) (low r) t).0
  one_low low y l r (inr e) t = ap low (eqb-true y r e) ∙ (and_parts (low l) (low r) t).1

  child_low : (low : ℕ → Bool) (y : ℕ) (n : Node) → is_child n y ≡ true → node_low a b low n ≡ true → low y ≡ true
  child_low low y (Leaf q) c t = cc
  child_low low y (Either l r) c t = one_low low y l r (or_cases (eqb y l) (eqb y r) c) t
  child_low low y (Both l r) c t = one_low low y l r (or_cases (eqb y l) (eqb y r) c) t

  low_gives : (d x q : ℕ) → x < d → low_to a b d x ≡ true → NamedBelow a q x → priority_of a q ≤ b
  unfolding low_to
  low_gives zero x q l t n = absurd (omega arith)
  low_gives (suc d) x q l t (at_leaf e) = leb-true _ _ (sym (ap (node_low a b (low_to a b d)) e) ∙ t)
  low_gives (suc d) x q l t (at_child {y = y} c n) =
      let y< = w.children x y c in
      low_gives d y q (omega arith) (child_low (low_to a b d) y (node_of a x) c t) n

  abbrev Low : ℕ → Type 0
  Low x = (q : ℕ) → NamedBelow a q x → priority_of a q ≤ b

  low_from : (d x : ℕ) → Low x → low_to a b d x ≡ true
  unfolding low_to
  low_from zero x h = refl
  low_from (suc d) x h = go (node_of a x) refl (λ y c. low_from d y (λ q n. h q (at_child c n)))
    where
      go : (n : Node) → node_of a x ≡ n → ((y : ℕ) → is_child n y ≡ true → low_to a b d y ≡ true) → node_low a b (low_to a b d) n ≡ true
      go (Leaf q) e rec = le-leb _ _ (h q (at_leaf e))
      go (Either l r) e rec = and_from _ _ (rec l (left_child l r)) (rec r (right_child l r))
      go (Both l r) e rec = and_from _ _ (rec l (left_child l r)) (rec r (right_child l r))

  rule_from : (o : Option ℕ) → ((x : ℕ) → o ≡ Some x → Low x) → rule_low a b o ≡ true
  rule_from (Some x) h = low_from (suc x) x (h x refl)
  rule_from None h = refl

-- a rule is a state's
rule_in : (a : Automaton) (p letter x : ℕ) → rule_of a p letter ≡ Some x → p < state_count a
rule_in a p letter x e =
    elim (cases_lt p (state_count a)) [ inl l ↦ l | inr l ↦ (let n = rule_past_state a p letter l in cc) ]

pub stratified_tested : StratifiedTested
unfolding is_stratified state_low
stratified_tested a w = (
  (λ t p letter x q e n.
      let p< = rule_in a p letter x e in
      let low : rule_low a (priority_of a p) (Some x) ≡ true = sym (ap (rule_low a (priority_of a p)) e) ∙ all_gives a.letters _ (all_gives (state_count a) _ t p p<) letter (w.lettered p letter x e) in
      low_gives a w (priority_of a p) (suc x) x q (omega arith) low n),
  λ s. all_from (state_count a) _ (λ p p<. all_from a.letters _ (λ letter l<. rule_from a w (priority_of a p) (rule_of a p letter) (λ x e q n. s p letter x q e n))),
)
