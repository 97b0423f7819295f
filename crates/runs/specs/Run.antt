-- Runs of an automaton on an unending word, and acceptance.
use Rattle.std.specs.Prelude.{◌≡◌, ℕ, suc, ◌%◌, ◌<◌, Some, None, Option}
use Rattle.draft.specs.Automaton.{Automaton, priority_of, rule_of}
use Rattle.runs.specs.Models.{States, In, Minimal}

abbrev pub node_or_0 : Option ℕ → ℕ
node_or_0 (Some x) = x
node_or_0 None = 0

-- the node of the rule of a state for a letter, and 0 if it has none
abbrev pub rule_node : Automaton → ℕ → ℕ → ℕ
rule_node a q letter = node_or_0 (rule_of a q letter)

-- A run on the word from the state `start` is a directed acyclic graph. Its vertices are states at steps: V i q says that state q
-- at step i is one, and E i p q that an edge leads from state p at step i to state q at step i + 1. The start is the only vertex of
-- step 0 and every later vertex has an edge to it, so all are reachable from the start. The successors of a vertex are a minimal
-- model of the formula to which the step's letter leads its state.
pub record Run (a : Automaton) (word : ℕ → ℕ) (start : ℕ) (V : ℕ → States) (E : ℕ → ℕ → States) : Type 0 where
  pub starts : In (V 0) start
  pub only : (q : ℕ) → In (V 0) q → q ≡ start
  pub reached : (i q : ℕ) → In (V (suc i)) q → (p : ℕ) × In (E i p) q
  pub from : (i p q : ℕ) → In (E i p) q → In (V i) p
  pub to : (i p q : ℕ) → In (E i p) q → In (V (suc i)) q
  pub minimal : (i p : ℕ) → In (V i) p → Minimal a (E i p) (rule_node a p (word i))

-- ρ is an unending path of the run from its start
pub record RunPath (E : ℕ → ℕ → States) (start : ℕ) (ρ : ℕ → ℕ) : Type 0 where
  pub starts : ρ 0 ≡ start
  pub goes : (i : ℕ) → In (E i (ρ i)) (ρ (suc i))

-- The smallest priority on the path is even: for each odd priority on it a smaller even one occurs on it too. It is the smallest of
-- the whole path, not the smallest that recurs.
abbrev pub LeastEven : Automaton → (ℕ → ℕ) → Type 0
LeastEven a ρ =
    (i : ℕ) → priority_of a (ρ i) % 2 ≡ 1 →
    (j : ℕ) × (priority_of a (ρ j) < priority_of a (ρ i)) × (priority_of a (ρ j) % 2 ≡ 0)

-- the automaton has an accepting run on the word from the state
pub record Accepts (a : Automaton) (word : ℕ → ℕ) (start : ℕ) : Type 0 where
  pub vertices : ℕ → States
  pub edges : ℕ → ℕ → States
  pub run : Run a word start vertices edges
  pub even : (ρ : ℕ → ℕ) → RunPath edges start ρ → LeastEven a ρ
