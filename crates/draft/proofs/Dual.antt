-- What a turned automaton has in common with the automaton.
use Rattle.std.proofs.Common.{◌≡◌, ℕ, ◌+◌, ◌<◌, map, get_or, is_some, ap, arith}
use Rattle.std.proofs.Math.ListN as default
use Rattle.std.proofs.lemmas.List.{length-map, get_or-map, get_or_past}
use Rattle.parity.specs.Below.{all_below}
use Rattle.draft.specs.declared.parts.Node.TheVariants.{Leaf}
use Rattle.draft.specs.Automaton.{Automaton, blank, state_count, node_count, priority_of, rule_of, node_of, is_ruled, is_complete}
use Rattle.draft.specs.Calls.{dual, raised, turned}

module _ (a : Automaton) where
  pub states_same : state_count (turned a) ≡ state_count a
  states_same = length-map a.states raised

  pub nodes_same : node_count (turned a) ≡ node_count a
  nodes_same = length-map a.nodes dual

  pub state_raised : (q : ℕ) → q < state_count a → get_or (map raised a.states) q blank ≡ raised (get_or a.states q blank)
  state_raised q l = get_or-map raised a.states q blank blank l

  pub priority_raised : (q : ℕ) → q < state_count a → priority_of (turned a) q ≡ priority_of a q + 1
  priority_raised q q< = ap (λ s. s.priority) (state_raised q q<)

  pub rule_same : (q letter : ℕ) → rule_of (turned a) q letter ≡ rule_of a q letter
  rule_same q letter = grind (arith, states_same, state_raised, get_or_past)

  pub node_dual : (x : ℕ) → node_of (turned a) x ≡ dual (node_of a x)
  node_dual x = default.get_or-map dual a.nodes x (Leaf 0)

  pub complete_same : is_complete (turned a) ≡ is_complete a
  unfolding is_complete is_ruled
  complete_same = λ i. all_below (states_same i) (λ q. all_below a.letters (λ letter. is_some (rule_same q letter i)))
