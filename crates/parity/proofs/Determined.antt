-- Determinacy with the reported moves.
use Rattle.std.proofs.Common.{◌≡◌, ℕ, ◌<◌, refl}
use Rattle.parity.specs.Game.{Game, Sound}
use Rattle.parity.specs.Play.{Winning}
use Rattle.parity.specs.Grading.{grade, distance, winner}
use Rattle.parity.specs.Move.{move}
use Rattle.parity.specs.Determinacy.{Determinacy, reported}
use Rattle.parity.specs.declared.player.Player.{Player}
use Rattle.parity.proofs.Moves.{serves}
use Rattle.parity.proofs.Graded.{graded}
use Rattle.parity.proofs.Won.{won}
use Rattle.parity.proofs.Duel.{only_one}

pub move_legal : (G : Game) → Sound G → (u : ℕ) → u < G.count → move G u < G.degree u
move_legal G sound u u< = (serves G (grade G) (distance G) u (graded G sound u u<)).here

pub reported_wins : (G : Game) → Sound G → (v : ℕ) → v < G.count → (x : Player) → winner G v ≡ x → Winning G x (reported G) v
reported_wins G sound v v< x e = record {
  legal = λ past u u< own. move_legal G sound u u<;
  wins = λ π play follows. won G sound (grade G) (distance G) (move G) (graded G sound) (λ u u<. serves G (grade G) (distance G) u (graded G sound u u<)) x v v< π play follows e;
}

pub determinacy : Determinacy
determinacy G sound v v< = let w = reported_wins G sound v v< (winner G v) refl in (w, λ plan. only_one G sound v v< (winner G v) (reported G) plan w)
