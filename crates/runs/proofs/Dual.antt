-- A turned automaton reads the same rules, and is in range too.
use Rattle.std.proofs.Common.{◌≡◌, ℕ, true, ap, arith}
use Rattle.draft.specs.declared.parts.Node.{Node}
use Rattle.draft.specs.declared.parts.Node.TheVariants.{Leaf, Either, Both}
use Rattle.draft.specs.Automaton.{Automaton, state_count, node_of, is_complete}
use Rattle.draft.specs.Calls.{dual, turned}
use Rattle.draft.specs.WellFormed.{WellFormed, Fits}
use Rattle.draft.proofs.Dual.{states_same, nodes_same, priority_raised, rule_same, node_dual}
use Rattle.runs.specs.Run.{node_or_0, rule_node}
use Rattle.runs.proofs.Formed.{Formed, formed}

module _ (a : Automaton) where
  pub rule_node_same : (q letter : ℕ) → rule_node (turned a) q letter ≡ rule_node a q letter
  rule_node_same q letter = ap node_or_0 (rule_same a q letter)

  dual_fits : (s x : ℕ) (n : Node) → Fits s x n → Fits s x (dual n)
  dual_fits s x (Leaf q) h = h
  dual_fits s x (Either l r) h = h
  dual_fits s x (Both l r) h = h

  pub turned_formed : WellFormed a → is_complete a ≡ true → Formed (turned a)
  turned_formed w c =
      let f = formed a w c in
      record {
        named = λ x x<. rw (states_same a, node_dual a x) (dual_fits (state_count a) x (node_of a x) (f.named x (rw (nodes_same a) at x<)));
        ruled = λ q l q< l<. rw (nodes_same a, rule_node_same q l) (f.ruled q l (rw (states_same a) at q<) l<);
        low = λ q q<. (let h = rw (states_same a) at q< in omega (arith, priority_raised a q h, w.low q h));
      }
