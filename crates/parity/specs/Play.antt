-- Plays, plans, and who wins.
use Rattle.std.specs.Prelude.{◌≡◌, ℕ, zero, suc, ◌<◌, List, [], ◌∷◌}
use Rattle.parity.specs.Player.{other}
use Rattle.parity.specs.Game.{Game, favoured}
use Rattle.parity.specs.declared.player.Player.{Player}

-- π is an unending list of vertices from v on, each a successor of the one before
pub record Play (G : Game) (v : ℕ) (π : ℕ → ℕ) : Type 0 where
  pub starts : π 0 ≡ v
  pub goes : (i : ℕ) → (j : ℕ) × (j < G.degree (π i)) × (π (suc i) ≡ G.successor (π i) j)

-- The smallest priority that occurs in π favours x: for each priority in it that favours the other player, a smaller one that
-- favours x occurs in it too. It is the smallest of the whole play, not the smallest that recurs.
abbrev pub Wins : Game → Player → (ℕ → ℕ) → Type 0
Wins G x π =
    (i : ℕ) → favoured G (G.priority (π i)) ≡ other x →
    (j : ℕ) × (G.priority (π j) < G.priority (π i)) × (favoured G (G.priority (π j)) ≡ x)

-- a plan (a strategy with memory) gives a position for the vertices played before, the latest first, and the vertex now
abbrev pub Plan : Type 0
Plan = List ℕ → ℕ → ℕ

-- the vertices of π before its i-th, the latest first
abbrev pub before : (ℕ → ℕ) → ℕ → List ℕ
before π zero = []
before π (suc i) = π i ∷ before π i

-- wherever x is to move in π, the play goes on as the plan says
abbrev pub Follows : Game → Player → Plan → (ℕ → ℕ) → Type 0
Follows G x plan π = (i : ℕ) → G.owner (π i) ≡ x → π (suc i) ≡ G.successor (π i) (plan (before π i) (π i))

-- the plan gives x a move at each of her vertices, and she wins every play from v that follows it, whatever the other does
pub record Winning (G : Game) (x : Player) (plan : Plan) (v : ℕ) : Type 0 where
  pub legal : (past : List ℕ) (u : ℕ) → u < G.count → G.owner u ≡ x → plan past u < G.degree u
  pub wins : (π : ℕ → ℕ) → Play G v π → Follows G x plan π → Wins G x π
