-- The pair game of two automata, by the numbers of its vertices.
use Rattle.std.specs.Prelude.{ℕ, ◌+◌, ◌-◌, ◌*◌, ◌/◌, ◌%◌, Bool, true, false, cond, ◌&&◌, ◌||◌, ◌==◌, nat_lt}
use Rattle.parity.specs.Game.{Game}
use Rattle.parity.specs.Grading.{winner}
use Rattle.parity.specs.declared.player.Player.{Player}
use Rattle.parity.specs.declared.player.Player.TheVariants.{Zero, One}
use Rattle.draft.specs.declared.parts.Node.{Node}
use Rattle.draft.specs.declared.parts.Node.TheVariants.{Leaf, Either, Both}
use Rattle.draft.specs.Automaton.{Automaton, state_count, node_count, priority_of, node_of}
use Rattle.runs.specs.Inside.{inside, inside_place}
use Rattle.runs.specs.Run.{rule_node}
use Rattle.runs.specs.WordGame.{side}
use Rattle.inclusion.specs.declared.place.PairPlace.{PairPlace}
use Rattle.inclusion.specs.declared.place.PairPlace.TheVariants.{AtStates, AtNodes}

abbrev pub is_either : Node → Bool
is_either (Leaf q) = false
is_either (Either l r) = true
is_either (Both l r) = false

abbrev pub is_both : Node → Bool
is_both (Leaf q) = false
is_both (Either l r) = false
is_both (Both l r) = true

-- the state of a leaf, or the child at a position
abbrev pub part : Node → ℕ → ℕ
part (Leaf q) i = q
part (Either l r) i = side l r i
part (Both l r) i = side l r i

-- player 1 moves in the first automaton at "or", and in the second at "and"
abbrev pub one_moves : Node → Node → Bool
one_moves n o = is_either n || is_both o

abbrev pub pair_owner : Node → Node → Player
pair_owner n o = cond (one_moves n o) One Zero

-- where player 1 does not move, player 0 moves in the first automaton at "and", and in the second at "or"
abbrev pub first_moves : Node → Node → Bool
first_moves n o = cond (one_moves n o) (is_either n) (is_both n)

abbrev pub second_moves : Node → Node → Bool
second_moves n o = cond (one_moves n o) (is_both o) (is_either o)

-- two moves for each node that moves; two leaves have one
abbrev pub pair_degree : Node → Node → ℕ
pair_degree n o = cond (first_moves n o || second_moves n o) (cond (first_moves n o) 2 0 + cond (second_moves n o) 2 0) 1

-- even if the first is odd or the second even, and smaller for a smaller sum
abbrev pub pair_priority : ℕ → ℕ → ℕ
pair_priority p q = 2 * (p + q) + cond (p % 2 == 1 || q % 2 == 0) 0 1

-- the second automaton has s states: states p and q
abbrev pub states_vertex : ℕ → ℕ → ℕ → ℕ
states_vertex s p q = p * s + q

-- behind n pairs of states, the second automaton having m nodes: nodes x and y
abbrev pub nodes_vertex : ℕ → ℕ → ℕ → ℕ → ℕ
nodes_vertex n m x y = n + (x * m + y)

abbrev pub pair_of : ℕ → ℕ → ℕ → ℕ → PairPlace
pair_of n s m v = cond (nat_lt v n) (AtStates (v / s) (v % s)) (AtNodes ((v - n) / m) ((v - n) % m))

module _ (a b : Automaton) where
  abbrev pub states_at : ℕ → ℕ → ℕ
  states_at p q = states_vertex (state_count b) p q

  abbrev pub nodes_at : ℕ → ℕ → ℕ
  nodes_at x y = nodes_vertex (state_count a * state_count b) (node_count b) x y

  abbrev pub pair_at : ℕ → PairPlace
  pair_at v = pair_of (state_count a * state_count b) (state_count b) (node_count b) v

  -- the first's node at the first two positions if it moves, then the second's; two leaves lead to their states
  abbrev pub nodes_successor : ℕ → ℕ → Node → Node → ℕ → ℕ
  nodes_successor x y n o i =
      cond (first_moves n o && nat_lt i 2) (nodes_at (part n (i % 2)) y)
      (cond (second_moves n o) (nodes_at x (part o (i % 2)))
      (states_at (part n 0) (part o 0)))

  -- at a pair of states player 1 chooses a letter
  abbrev pub place_owner : PairPlace → Player
  place_owner (AtStates p q) = One
  place_owner (AtNodes x y) = pair_owner (node_of a x) (node_of b y)

  abbrev pub place_priority : PairPlace → ℕ
  place_priority (AtStates p q) = pair_priority (priority_of a p) (priority_of b q)
  place_priority (AtNodes x y) = 9999

  abbrev pub place_degree : PairPlace → ℕ
  place_degree (AtStates p q) = a.letters
  place_degree (AtNodes x y) = pair_degree (node_of a x) (node_of b y)

  abbrev pub place_successor : PairPlace → ℕ → ℕ
  place_successor (AtStates p q) letter = nodes_at (rule_node a p letter) (rule_node b q letter)
  place_successor (AtNodes x y) i = nodes_successor x y (node_of a x) (node_of b y) i

  -- the game at the vertices and positions that it has
  abbrev pub pair_moves : Game
  pair_moves = record {
    count = state_count a * state_count b + node_count a * node_count b;
    even_side = Zero;
    owner = λ v. place_owner (pair_at v);
    priority = λ v. place_priority (pair_at v);
    degree = λ v. place_degree (pair_at v);
    successor = λ v i. place_successor (pair_at v) i;
  }

  abbrev pub pair_game : Game
  pair_game = inside pair_moves

  abbrev pub pair_place : ℕ → PairPlace
  pair_place = inside_place pair_moves pair_at

  abbrev pub pair_winner : ℕ → ℕ → Player
  pair_winner p q = winner pair_game (states_at p q)
