-- A play that follows moves that serve is won by the player whom the grade of its start favours.
use Rattle.std.proofs.Common.{◌≡◌, ℕ, suc, ◌<◌, inr}
use Rattle.parity.specs.Game.{Game, Sound, favoured}
use Rattle.parity.specs.Play.{Play, Wins}
use Rattle.parity.specs.Certificate.{Certificate, Serves}
use Rattle.parity.proofs.Stutter.{Loose, won as loosely}
use Rattle.parity.specs.declared.player.Player.{Player}

module _ (G : Game) (sound : Sound G) (g δ m : ℕ → ℕ) (table : Certificate G g δ) (serves : (v : ℕ) → v < G.count → Serves G g δ v (m v)) (x : Player) (v : ℕ) (v< : v < G.count) (π : ℕ → ℕ) (play : Play G v π) (follows : (i : ℕ) → G.owner (π i) ≡ x → π (suc i) ≡ G.successor (π i) (m (π i))) where
  loose : Loose G m x v π (λ _. 0)
  loose = record { starts = play.starts; goes = λ i. (let s = play.goes i in inr (s.0, s.1, s.2, follows i)) }

  pub won : favoured G (g v) ≡ x → Wins G x π
  won = loosely G sound g δ m table serves x v v< π (λ _. 0) loose
