-- The mirror of a game exchanges the two owners and the two even sides and keeps all else.
use Rattle.std.specs.Prelude.{◌≡◌, ℕ, ◌<◌, cond, nat_lt}
use Rattle.parity.specs.Player.{other}
use Rattle.parity.specs.Game.{Game, Sound}
use Rattle.parity.specs.Grading.{grade, distance, winner}
use Rattle.parity.specs.Move.{move}
use Rattle.parity.specs.declared.player.Player.TheVariants.{Zero}

-- a number that is no vertex has owner 0 in every arena, so in the mirror too
abbrev pub mirror : Game → Game
mirror G = record {
  count = G.count;
  even_side = other G.even_side;
  owner = λ v. cond (nat_lt v G.count) (other (G.owner v)) Zero;
  priority = G.priority;
  degree = G.degree;
  successor = G.successor;
}

abbrev pub Mirrored : Type 0
Mirrored =
    (G : Game) → Sound G → (v : ℕ) → v < G.count →
    (grade (mirror G) v ≡ grade G v) × (distance (mirror G) v ≡ distance G v)
    × (winner (mirror G) v ≡ other (winner G v)) × (move (mirror G) v ≡ move G v)
