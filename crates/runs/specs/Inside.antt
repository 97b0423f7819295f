-- A game as an arena answers for it: 0 where there is no such vertex or position.
use Rattle.std.specs.Prelude.{ℕ, cond, nat_lt}
use Rattle.parity.specs.Game.{Game}
use Rattle.arena.specs.Known.{known}
use Rattle.parity.specs.declared.player.Player.TheVariants.{Zero}

abbrev pub inside : Game → Game
inside G = record {
  count = G.count;
  even_side = G.even_side;
  owner = λ v. cond (nat_lt v G.count) (G.owner v) Zero;
  priority = λ v. cond (nat_lt v G.count) (G.priority v) 0;
  degree = λ v. cond (nat_lt v G.count) (G.degree v) 0;
  successor = λ v i. cond (nat_lt v G.count) (cond (nat_lt i (G.degree v)) (G.successor v i) 0) 0;
}

-- a number that is no vertex stands where vertex 0 stands
abbrev pub inside_place : {P : Type 0} → Game → (ℕ → P) → ℕ → P
inside_place G place v = place (known G.count v)
