-- Weak parity games.
use Rattle.std.specs.Prelude.{ℕ, ◌%◌, ◌<◌, cond, ◌==◌}
use Rattle.parity.specs.Player.{other}
use Rattle.parity.specs.declared.player.Player.{Player}

-- The vertices are the numbers below the count. A vertex belongs to its owner, has a priority, and has as many moves as its
-- degree says: successor v i is where the move at position i leads.
pub record Game : Type 0 where
  pub count : ℕ
  pub even_side : Player
  pub owner : ℕ → Player
  pub priority : ℕ → ℕ
  pub degree : ℕ → ℕ
  pub successor : ℕ → ℕ → ℕ

-- each vertex has a move, and each move leads to a vertex
pub record Sound (G : Game) : Type 0 where
  pub moves : (v : ℕ) → v < G.count → 0 < G.degree v
  pub stays : (v i : ℕ) → v < G.count → i < G.degree v → G.successor v i < G.count

-- an even priority favours the even side, an odd one the other player
unfoldable pub favoured : Game → ℕ → Player
favoured G p = cond (p % 2 == 0) G.even_side (other G.even_side)
