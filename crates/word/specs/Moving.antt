-- The vertices of a word arena, and where its moves lead, 0 at a position that does not exist.
use Rattle.std.specs.Prelude.{ℕ, cond, List, Some, None, Option, nat_lt}
use Rattle.draft.specs.declared.parts.Node.{Node}
use Rattle.draft.specs.Automaton.{Automaton}
use Rattle.runs.specs.WordGame.{node_degree, node_successor, place_at, place_successor, word_game}
use Rattle.runs.specs.declared.place.WordPlace.{WordPlace}
use Rattle.runs.specs.declared.place.WordPlace.TheVariants.{AtState}

-- what a vertex stands for, if there is such a vertex
abbrev pub vertex_of : Automaton → List ℕ → List ℕ → ℕ → Option WordPlace
vertex_of a prefix period v = cond (nat_lt v (word_game a prefix period).count) (Some (place_at a prefix period v)) None

-- from state q at step k
abbrev pub state_move : Automaton → List ℕ → List ℕ → ℕ → ℕ → ℕ → ℕ
state_move a prefix period k q i = cond (nat_lt i 1) (place_successor a prefix period (AtState k q) i) 0

-- from a node at step k
abbrev pub node_move : Automaton → List ℕ → List ℕ → ℕ → Node → ℕ → ℕ
node_move a prefix period k node i = cond (nat_lt i (node_degree node)) (node_successor a prefix period k node i) 0
