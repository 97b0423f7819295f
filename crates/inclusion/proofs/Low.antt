-- The test of the leaves below a node: any depth above the node's number will do.
use Rattle.std.proofs.Common.{◌≡◌, ℕ, zero, suc, ◌<◌, Bool, ◌&&◌, refl, arith}
use Rattle.draft.specs.declared.parts.Node.{Node}
use Rattle.draft.specs.declared.parts.Node.TheVariants.{Leaf, Either, Both}
use Rattle.draft.specs.Automaton.{Automaton, state_count, node_count, node_of}
use Rattle.draft.specs.WellFormed.{WellFormed, Fits}
use Rattle.draft.proofs.Children.{node_fits}
use Rattle.inclusion.specs.Stratified.{node_low, low_to, is_low}

module _ (a : Automaton) (w : WellFormed a) (b : ℕ) where
  -- tests that agree at the children agree at the node
  node_same : (low low' : ℕ → Bool) (x : ℕ) (n : Node) → Fits (state_count a) x n → ((y : ℕ) → y < x → low y ≡ low' y) → node_low a b low n ≡ node_low a b low' n
  node_same low low' x (Leaf q) h e = refl
  node_same low low' x (Either l r) (l<, r<) e = λ i. e l l< i && e r r< i
  node_same low low' x (Both l r) (l<, r<) e = λ i. e l l< i && e r r< i

  low_same : (d d' x : ℕ) → x < d → x < d' → x < node_count a → low_to a b d x ≡ low_to a b d' x
  unfolding low_to
  low_same zero d' x l l' x< = absurd (omega arith)
  low_same (suc d) zero x l l' x< = absurd (omega arith)
  low_same (suc d) (suc d') x l l' x< =
      node_same (low_to a b d) (low_to a b d') x (node_of a x) (node_fits a w x x<) (λ y y<. low_same d d' y (omega arith) (omega arith) (omega arith))

  -- the test of a node by the tests of its children
  pub is_low_by : (x : ℕ) → x < node_count a → is_low a b x ≡ node_low a b (is_low a b) (node_of a x)
  unfolding low_to
  is_low_by x x< = node_same (low_to a b x) (is_low a b) x (node_of a x) (node_fits a w x x<) (λ y y<. low_same x (suc y) y y< (omega arith) (omega arith))
