-- What the numbers of a pair arena stand for, and where its moves lead, 0 at a position that does not exist.
use Rattle.std.specs.Prelude.{ℕ, cond, Some, None, Option, nat_lt}
use Rattle.draft.specs.Automaton.{Automaton, node_of}
use Rattle.inclusion.specs.PairGame.{pair_at, pair_degree, nodes_successor, place_successor, pair_game}
use Rattle.inclusion.specs.declared.place.PairPlace.{PairPlace}
use Rattle.inclusion.specs.declared.place.PairPlace.TheVariants.{AtStates}

-- what a number stands for, if it is a vertex
abbrev pub vertex_at : Automaton → Automaton → ℕ → Option PairPlace
vertex_at a b v = cond (nat_lt v (pair_game a b).count) (Some (pair_at a b v)) None

-- from states p and q
abbrev pub states_move : Automaton → Automaton → ℕ → ℕ → ℕ → ℕ
states_move a b p q i = cond (nat_lt i a.letters) (place_successor a b (AtStates p q) i) 0

-- from nodes x and y
abbrev pub nodes_move : Automaton → Automaton → ℕ → ℕ → ℕ → ℕ
nodes_move a b x y i =
    cond (nat_lt i (pair_degree (node_of a x) (node_of b y))) (nodes_successor a b x y (node_of a x) (node_of b y) i) 0
