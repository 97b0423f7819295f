-- The word game of an automaton and a repeating word, by the numbers of its vertices.
use Rattle.std.specs.Prelude.{ℕ, zero, suc, ◌+◌, ◌-◌, ◌*◌, ◌/◌, ◌%◌, cond, List, length, ◌==◌, nat_lt}
use Rattle.parity.specs.Game.{Game}
use Rattle.parity.specs.declared.player.Player.{Player}
use Rattle.parity.specs.declared.player.Player.TheVariants.{Zero, One}
use Rattle.draft.specs.declared.parts.Node.{Node}
use Rattle.draft.specs.declared.parts.Node.TheVariants.{Leaf, Either, Both}
use Rattle.draft.specs.Automaton.{Automaton, state_count, node_count, priority_of, node_of}
use Rattle.runs.specs.declared.place.WordPlace.{WordPlace}
use Rattle.runs.specs.declared.place.WordPlace.TheVariants.{AtState, AtNode}
use Rattle.runs.specs.Run.{rule_node}
use Rattle.runs.specs.Word.{letter}
use Rattle.runs.specs.Inside.{inside, inside_place}

-- the steps of the prefix and of one period
abbrev pub steps : List ℕ → List ℕ → ℕ
steps prefix period = length prefix + length period

-- after the last step comes the first step of the period
abbrev pub next_step : List ℕ → List ℕ → ℕ → ℕ
next_step prefix period k = cond (suc k == steps prefix period) (length prefix) (suc k)

-- with s states: state q at step k
abbrev pub state_vertex : ℕ → ℕ → ℕ → ℕ
state_vertex s k q = k * s + q

-- with n steps, s states and m nodes: node x at step k
abbrev pub node_vertex : ℕ → ℕ → ℕ → ℕ → ℕ → ℕ
node_vertex n s m k x = n * s + (k * m + x)

-- the step, and the state or node, of a vertex
abbrev pub vertex_place : ℕ → ℕ → ℕ → ℕ → WordPlace
vertex_place n s m v = cond (nat_lt v (n * s)) (AtState (v / s) (v % s)) (AtNode ((v - n * s) / m) ((v - n * s) % m))

-- "and" belongs to player 1, all else to player 0
abbrev pub node_owner : Node → Player
node_owner (Leaf q) = Zero
node_owner (Either l r) = Zero
node_owner (Both l r) = One

abbrev pub node_degree : Node → ℕ
node_degree (Leaf q) = 1
node_degree (Either l r) = 2
node_degree (Both l r) = 2

-- the left at position 0, then the right
abbrev pub side : ℕ → ℕ → ℕ → ℕ
side l r zero = l
side l r (suc i) = r

module _ (a : Automaton) where
  abbrev pub place_owner : WordPlace → Player
  place_owner (AtState k q) = Zero
  place_owner (AtNode k x) = node_owner (node_of a x)

  -- a node's priority is above that of every state
  abbrev pub place_priority : WordPlace → ℕ
  place_priority (AtState k q) = priority_of a q
  place_priority (AtNode k x) = 9999

  abbrev pub place_degree : WordPlace → ℕ
  place_degree (AtState k q) = 1
  place_degree (AtNode k x) = node_degree (node_of a x)

  module _ (prefix period : List ℕ) where
    abbrev pub state_at : ℕ → ℕ → ℕ
    state_at k q = state_vertex (state_count a) k q

    abbrev pub node_at : ℕ → ℕ → ℕ
    node_at k x = node_vertex (steps prefix period) (state_count a) (node_count a) k x

    abbrev pub place_at : ℕ → WordPlace
    place_at v = vertex_place (steps prefix period) (state_count a) (node_count a) v

    -- a leaf leads to its state at the next step, the others to their children at the same step
    abbrev pub node_successor : ℕ → Node → ℕ → ℕ
    node_successor k (Leaf q) i = state_at (next_step prefix period k) q
    node_successor k (Either l r) i = node_at k (side l r i)
    node_successor k (Both l r) i = node_at k (side l r i)

    -- a state leads to the node of its rule for the step's letter
    abbrev pub place_successor : WordPlace → ℕ → ℕ
    place_successor (AtState k q) i = node_at k (rule_node a q (letter prefix period k))
    place_successor (AtNode k x) i = node_successor k (node_of a x) i

    -- the game at the vertices and positions that it has
    abbrev pub word_moves : Game
    word_moves = record {
      count = steps prefix period * state_count a + steps prefix period * node_count a;
      even_side = Zero;
      owner = λ v. place_owner (place_at v);
      priority = λ v. place_priority (place_at v);
      degree = λ v. place_degree (place_at v);
      successor = λ v i. place_successor (place_at v) i;
    }

    abbrev pub word_game : Game
    word_game = inside word_moves

    abbrev pub word_place : ℕ → WordPlace
    word_place = inside_place word_moves place_at
