-- A ring of n stations as a game: the token is handed on (move 0) or kept (move 1).
use Rattle.std.specs.Prelude.{ℕ, ◌+◌, ◌%◌, cond, ◌&&◌, ◌==◌, nat_lt}
use Rattle.parity.specs.Game.{Game}
use Rattle.parity.specs.declared.player.Player.TheVariants.{Zero, One}
use Rattle.arena.specs.Known.{known}
use Rattle.ring_example.specs.declared.ring.Station.{Station}

abbrev pub next : ℕ → ℕ → ℕ
next n v = cond (nat_lt (v + 1) n) (v + 1) 0

-- odd stations belong to player 1, who is also the even side
abbrev pub ring_game : ℕ → Game
ring_game n = record {
  count = n;
  even_side = One;
  owner = λ v. cond (nat_lt v n && v % 2 == 1) One Zero;
  priority = λ v. cond (nat_lt v n) (v % 7) 0;
  degree = λ v. cond (nat_lt v n) 2 0;
  successor = λ v i. cond (nat_lt v n) (cond (i == 0) (next n v) (cond (i == 1) v 0)) 0;
}

abbrev pub station : ℕ → ℕ → Station
station n v = record { number = known n v }
