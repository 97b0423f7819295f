-- What the meaning of an arena owes.
use Rattle.std.specs.Prelude.{◌≡◌, ℕ, ◌<◌, ◌≤◌}
use Rattle.parity.specs.Game.{Game}
use Rattle.parity.specs.declared.player.Player.TheVariants.{Zero}

-- 1 to 65,535 vertices, priorities up to 9,999, 1 to 16 moves at each vertex, and 0 where there is no such vertex or position
pub record Bounds (G : Game) : Type 0 where
  pub some : 1 ≤ G.count
  pub few : G.count ≤ 65535
  pub priorities : (v : ℕ) → G.priority v ≤ 9999
  pub moves : (v : ℕ) → v < G.count → 1 ≤ G.degree v
  pub limit : (v : ℕ) → G.degree v ≤ 16
  pub inside : (v i : ℕ) → G.successor v i < G.count
  pub no_owner : (v : ℕ) → G.count ≤ v → G.owner v ≡ Zero
  pub no_priority : (v : ℕ) → G.count ≤ v → G.priority v ≡ 0
  pub no_degree : (v : ℕ) → G.count ≤ v → G.degree v ≡ 0
  pub no_successor : (v i : ℕ) → G.degree v ≤ i → G.successor v i ≡ 0
