-- The mirror keeps the bounds.
use Rattle.std.specs.Prelude.{nat_lt}
use Rattle.std.proofs.lemmas.Bool.{cond-false, le-ltb}
use Rattle.parity.specs.Game.{Game}
use Rattle.parity.specs.Mirror.{mirror}
use Rattle.arena.specs.Bounds.{Bounds}

pub mirror_bounds : (G : Game) → Bounds G → Bounds (mirror G)
mirror_bounds G b = record {
  some = b.some;
  few = b.few;
  priorities = b.priorities;
  moves = b.moves;
  limit = b.limit;
  inside = b.inside;
  no_owner = λ v h. cond-false (nat_lt v G.count) _ _ (le-ltb v G.count h);
  no_priority = b.no_priority;
  no_degree = b.no_degree;
  no_successor = b.no_successor;
}
