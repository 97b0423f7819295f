-- What is used of an automaton: its nodes, rules and priorities are in range.
use Rattle.std.proofs.Common.{◌≡◌, ℕ, ◌<◌, ◌≤◌, true, is_some, Some, None, Option, refl, arith}
use Rattle.parity.proofs.Below.{all_gives}
use Rattle.draft.specs.Automaton.{Automaton, state_count, node_count, priority_of, rule_of, node_of, is_ruled, is_complete}
use Rattle.draft.specs.WellFormed.{WellFormed, Fits}
use Rattle.draft.proofs.Children.{node_fits}
use Rattle.runs.specs.Run.{node_or_0, rule_node}

-- A priority may be 1,000, so that this holds of a turned automaton too, whatever its priorities were.
pub record Formed (a : Automaton) : Type 0 where
  pub named : (x : ℕ) → x < node_count a → Fits (state_count a) x (node_of a x)
  pub ruled : (q letter : ℕ) → q < state_count a → letter < a.letters → rule_node a q letter < node_count a
  pub low : (q : ℕ) → q < state_count a → priority_of a q ≤ 1000

some_is : (o : Option ℕ) → is_some o ≡ true → o ≡ Some (node_or_0 o)
some_is (Some x) e = refl
some_is None e = cc

-- a complete automaton has every rule
pub rule_is : (a : Automaton) → is_complete a ≡ true → (q letter : ℕ) → q < state_count a → letter < a.letters → rule_of a q letter ≡ Some (rule_node a q letter)
unfolding is_complete is_ruled
rule_is a c q l q< l< = some_is (rule_of a q l) (all_gives a.letters _ (all_gives (state_count a) _ c q q<) l l<)

pub formed : (a : Automaton) → WellFormed a → is_complete a ≡ true → Formed a
formed a w c = record {
  named = node_fits a w;
  ruled = λ q l q< l<. w.named q l (rule_node a q l) (rule_is a c q l q< l<);
  low = λ q q<. (let h = w.low q q< in omega arith);
}
