-- Weak alternating parity automata: what a draft stands for, and how it is read.
use Rattle.std.specs.Prelude.{ℕ, Bool, List, [], length, get_or, is_some, None, Option, slice_index_or}
use Rattle.parity.specs.Below.{all_below}
use Rattle.draft.specs.declared.parts.Node.{Node}
use Rattle.draft.specs.declared.parts.Node.TheVariants.{Leaf}
use Rattle.draft.specs.declared.parts.State.{State}

-- letters, states and nodes are numbered from 0; a node is a positive Boolean formula over states, in which
-- `Leaf q` is the state q, `Either l r` is "l or r", and `Both l r` is "l and r"
pub record Automaton : Type 0 where
  pub letters : ℕ
  pub states : List State
  pub nodes : List Node

abbrev pub empty : ℕ → Automaton
empty n = record { letters = n; states = []; nodes = [] }

-- what is read where there is no state
abbrev pub blank : State
blank = record { priority = 0; rules = [] }

abbrev pub state_count : Automaton → ℕ
state_count a = length a.states

abbrev pub node_count : Automaton → ℕ
node_count a = length a.nodes

-- 0 where there is no such state
abbrev pub priority_of : Automaton → ℕ → ℕ
priority_of a q = (get_or a.states q blank).priority

-- the node to which a letter leads a state, if it has a rule for it
abbrev pub rule_of : Automaton → ℕ → ℕ → Option ℕ
rule_of a q letter = slice_index_or (get_or a.states q blank).rules letter None

-- the leaf of state 0 where there is no such node
abbrev pub node_of : Automaton → ℕ → Node
node_of a x = slice_index_or a.nodes x (Leaf 0)

-- the state has a rule for each letter
unfoldable pub is_ruled : Automaton → ℕ → Bool
is_ruled a q = all_below a.letters (λ letter. is_some (rule_of a q letter))

-- each state has a rule for each letter
unfoldable pub is_complete : Automaton → Bool
is_complete a = all_below (state_count a) (is_ruled a)
