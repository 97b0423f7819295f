use Rattle.std.proofs.Common.{◌≡◌}
use Rattle.game.proofs.Finish.{Finishing}
use Rattle.game.proofs.table.Table.finish.Given as goal

abbrev pub invariant-loop-v : goal.invariant-loop-v
invariant-loop-v g l = record {
  same : (l.self.arena ≡ l.initial.self.arena) × (l.self.records.ghost_name ≡ l.initial.self.records.ghost_name);
  finishing : Finishing (g.X.Arena.meaning l.initial.self.arena.now) l.v l.initial.self.records.now l.self.records.now;
}
