-- Determinacy, with the reported moves.
use Rattle.std.specs.Prelude.{ℕ, ◌<◌}
use Rattle.parity.specs.Player.{other}
use Rattle.parity.specs.Game.{Game, Sound}
use Rattle.parity.specs.Play.{Plan, Winning}
use Rattle.parity.specs.Grading.{winner}
use Rattle.parity.specs.Move.{move}

-- the reported moves as a plan: each list of vertices played gets the move of its last one
abbrev pub reported : Game → Plan
reported G past v = move G v

-- from each vertex its winner wins by the reported moves, and the other by no plan
abbrev pub Determined : Game → Type 0
Determined G =
    (v : ℕ) → v < G.count →
    Winning G (winner G v) (reported G) v × ((plan : Plan) → Winning G (other (winner G v)) plan v → ⊥)

-- every finite game in which each vertex has a move
abbrev pub Determinacy : Type 0
Determinacy = (G : Game) → Sound G → Determined G
