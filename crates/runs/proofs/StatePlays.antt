-- A play through given states of an automaton, one at each step, in which a player moves by m.
use Rattle.std.proofs.Common.{◌≡◌, ℕ, suc, ◌<◌, arith}
use Rattle.parity.specs.Game.{Game}
use Rattle.parity.specs.Play.{Play, Wins, Winning}
use Rattle.parity.specs.declared.player.Player.{Player}
use Rattle.draft.specs.Automaton.{Automaton, state_count, priority_of}
use Rattle.runs.specs.Run.{rule_node}
use Rattle.runs.proofs.Moved.{forced}
use Rattle.runs.proofs.Passage.{Walk, first_step, LeastFavours, passage, passage_plays, passage_follows, moves_least, least_wins}
use Rattle.runs.proofs.WordArena.{WordArena}

-- the states q i, and a way from each state's rule to the next state
module _ {G : Game} {a : Automaton} {word : ℕ → ℕ} {st nd : ℕ → ℕ → ℕ} (arena : WordArena G a word st nd)
    (m : ℕ → ℕ) (legal : (u : ℕ) → u < G.count → m u < G.degree u) (x : Player) (q : ℕ → ℕ) (q< : (i : ℕ) → q i < state_count a)
    (ways : (i : ℕ) → Walk G m x (nd i (rule_node a (q i) (word i))) (st (suc i) (q (suc i)))) where
  abbrev head : ℕ → ℕ
  head i = st i (q i)

  abbrev p : ℕ → ℕ
  p i = priority_of a (q i)

  priorities : (i : ℕ) → G.priority (head i) ≡ p i
  priorities i = arena.state_priority i (q i) (q< i)

  low : (i : ℕ) → p i < 9999
  low i = omega (arith, arena.formed.low (q i) (q< i))

  walks : (i : ℕ) → Walk G m x (head i) (head (suc i))
  walks i =
      let s = forced G m x (head i) _ (legal _ (arena.state_in i (q i) (q< i))) (arena.state_degree i (q i) (q< i)) (arena.state_next i (q i) (q< i)) in
      first_step G m x _ _ _ s (arena.node_high i _ (arena.formed.ruled (q i) (word i) (q< i) (arena.reads i))) (ways i)

  pub play : ℕ → ℕ
  play = passage G m x head p priorities low walks

  pub plays : Play G (head 0) play
  unfolding play
  plays = passage_plays G m x head p priorities low walks

  pub follows : (k : ℕ) → G.owner (play k) ≡ x → play (suc k) ≡ G.successor (play k) (m (play k))
  unfolding play
  follows = passage_follows G m x head p priorities low walks

  pub wins : (y : Player) → LeastFavours G y p → Wins G y play
  unfolding play
  wins = least_wins G m x head p priorities low walks

  pub least : Winning G x (λ past u. m u) (head 0) → LeastFavours G x p
  least = moves_least G m x head p priorities low walks
