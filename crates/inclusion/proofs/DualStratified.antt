-- Turning an automaton raises all priorities by one, so it is stratified exactly if it was.
use Rattle.std.proofs.Common.{◌≡◌, ℕ, zero, suc, ◌+◌, ◌<◌, Bool, ◌&&◌, leb, Some, None, Option, refl, ap, ◌∙◌, arith}
use Rattle.std.proofs.lemmas.Bool.Decides.{nat_tests}
use Rattle.parity.specs.Below.{all_below}
use Rattle.parity.proofs.Below.{all_cong}
use Rattle.draft.specs.declared.parts.Node.{Node}
use Rattle.draft.specs.declared.parts.Node.TheVariants.{Leaf, Either, Both}
use Rattle.draft.specs.Automaton.{Automaton, state_count, node_count, priority_of, rule_of, node_of}
use Rattle.draft.specs.Calls.{dual, turned}
use Rattle.draft.specs.WellFormed.{WellFormed, Fits}
use Rattle.draft.proofs.Children.{node_fits}
use Rattle.draft.proofs.Dual.{states_same, priority_raised, rule_same, node_dual}
use Rattle.inclusion.specs.Stratified.{node_low, low_to, rule_low, state_low, is_stratified}

leb_next : (m n : ℕ) → leb (m + 1) (n + 1) ≡ leb m n
leb_next m n = grind (arith, nat_tests)

module _ (a : Automaton) (w : WellFormed a) (b : ℕ) where
  node_raised : (low low' : ℕ → Bool) (x : ℕ) (n : Node) → Fits (state_count a) x n → ((y : ℕ) → y < x → low y ≡ low' y) → node_low (turned a) (b + 1) low (dual n) ≡ node_low a b low' n
  node_raised low low' x (Leaf q) q< e = ap (λ p. leb p (b + 1)) (priority_raised a q q<) ∙ leb_next (priority_of a q) b
  node_raised low low' x (Either l r) (l<, r<) e = λ i. e l l< i && e r r< i
  node_raised low low' x (Both l r) (l<, r<) e = λ i. e l l< i && e r r< i

  low_raised : (d x : ℕ) → x < node_count a → low_to (turned a) (b + 1) d x ≡ low_to a b d x
  unfolding low_to
  low_raised zero x x< = refl
  low_raised (suc d) x x< =
      ap (node_low (turned a) (b + 1) (low_to (turned a) (b + 1) d)) (node_dual a x)
      ∙ node_raised (low_to (turned a) (b + 1) d) (low_to a b d) x (node_of a x) (node_fits a w x x<) (λ y y<. low_raised d y (omega arith))

  rule_raised : (o : Option ℕ) → ((x : ℕ) → o ≡ Some x → x < node_count a) → rule_low (turned a) (b + 1) o ≡ rule_low a b o
  rule_raised (Some x) h = low_raised (suc x) x (h x refl)
  rule_raised None h = refl

state_same : (a : Automaton) → WellFormed a → (p : ℕ) → p < state_count a → state_low (turned a) p ≡ state_low a p
unfolding state_low
state_same a w p p< =
    all_cong a.letters _ _ (λ letter _.
    (λ i. rule_low (turned a) (priority_raised a p p< i) (rule_same a p letter i))
    ∙ rule_raised a w (priority_of a p) (rule_of a p letter) (λ x e. w.named p letter x e))

pub stratified_same : (a : Automaton) → WellFormed a → is_stratified (turned a) ≡ is_stratified a
unfolding is_stratified
stratified_same a w = ap (λ n. all_below n (state_low (turned a))) (states_same a) ∙ all_cong (state_count a) _ _ (λ p p<. state_same a w p p<)
