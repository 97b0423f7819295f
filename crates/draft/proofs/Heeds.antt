-- When the calls that build an automaton are heeded.
use Rattle.std.proofs.Common.{ℕ, ◌<◌, ◌≤◌, [], ◌∷◌, ◌++◌, get_or, set, arith}
use Rattle.draft.specs.declared.parts.Node.{Node}
use Rattle.draft.specs.declared.parts.Node.TheVariants.{Leaf, Either, Both}
use Rattle.draft.specs.declared.records.Call.TheVariants.{State, Rule}
use Rattle.draft.specs.Automaton.{Automaton, blank, state_count, node_count}
use Rattle.draft.specs.Calls.{with_states, with_nodes, fresh, ruled}
use Rattle.draft.specs.WellFormed.{Fits}
use Rattle.draft.specs.Written.{node_call}
use Rattle.draft.proofs.Runs.{Heeds}

pub heeds_state : (a : Automaton) (p : ℕ) → p ≤ 999 → state_count a < 32 → Heeds a (State p) (with_states a (a.states ++ fresh p ∷ []))
heeds_state a p l few = grind arith

pub heeds_node : (a : Automaton) (t : Node) → node_count a < 128 → Fits (state_count a) (node_count a) t → Heeds a (node_call t) (with_nodes a (a.nodes ++ t ∷ []))
heeds_node a (Leaf q) few fits = grind arith
heeds_node a (Either l r) few fits = grind arith
heeds_node a (Both l r) few fits = grind arith

pub heeds_rule : (a : Automaton) (q letter x : ℕ) → q < state_count a → letter < a.letters → x < node_count a
    → Heeds a (Rule q letter x) (with_states a (set a.states q (ruled (get_or a.states q blank) letter x)))
heeds_rule a q letter x q< l< x< = grind arith
