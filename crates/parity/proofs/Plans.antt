-- In a game with a move at each vertex, a player has a winning plan exactly where she is the winner.
use Rattle.std.proofs.Common.{◌≡◌, ℕ, ◌<◌, inl, inr}
use Rattle.parity.specs.declared.player.Player.{Player}
use Rattle.parity.specs.Player.{other}
use Rattle.parity.specs.Game.{Game, Sound}
use Rattle.parity.specs.Play.{Plan, Winning}
use Rattle.parity.specs.Grading.{winner}
use Rattle.parity.specs.Determinacy.{reported}
use Rattle.parity.proofs.Determined.{reported_wins}
use Rattle.parity.proofs.Duel.{only_one}
use Rattle.parity.proofs.Players.{which}

module _ (G : Game) (sound : Sound G) (v : ℕ) (v< : v < G.count) (x : Player) where
  pub wins_by_plan : winner G v ≡ x → (plan : Plan) × Winning G x plan v
  wins_by_plan e = (reported G, reported_wins G sound v v< x e)

  pub plan_wins : (plan : Plan) × Winning G x plan v → winner G v ≡ x
  plan_wins (plan, w) =
      elim (which (winner G v) x) [ inl e ↦ e | inr e ↦ absurd (only_one G sound v v< x plan (reported G) w (reported_wins G sound v v< (other x) e)) ]
