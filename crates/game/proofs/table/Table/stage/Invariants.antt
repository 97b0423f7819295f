use Rattle.std.proofs.Common.{◌≡◌, ◌-◌}
use Rattle.game.specs.Filling.{Filled, Kept}
use Rattle.game.proofs.table.Table.stage.Given as goal

abbrev pub invariant-loop-rank : goal.invariant-loop-rank
invariant-loop-rank g l =
    let G = g.X.Arena.meaning l.initial.self.arena.now in
    record {
      grade : l.rank.grade ≡ l.p;
      same : (l.self.arena ≡ l.initial.self.arena) × (l.self.records.ghost_name ≡ l.initial.self.records.ghost_name);
      filled : Filled G l.p l.rank.distance l.self.records.now;
      kept : Kept G.count l.initial.self.records.now l.self.records.now;
    }

abbrev pub decreases-loop-rank : goal.decreases-loop-rank
decreases-loop-rank g l = 65536 - l.rank.distance
