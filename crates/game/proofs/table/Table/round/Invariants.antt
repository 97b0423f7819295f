use Rattle.std.proofs.Common.{◌≡◌}
use Rattle.parity.specs.Below.{some_below}
use Rattle.game.specs.Filling.{gets}
use Rattle.game.proofs.Rounds.{Halfway}
use Rattle.game.proofs.table.Table.round.Given as goal

abbrev pub invariant-loop-v : goal.invariant-loop-v
invariant-loop-v g l =
    let G = g.X.Arena.meaning l.initial.self.arena.now in
    record {
      same : (l.self.arena ≡ l.initial.self.arena) × (l.self.records.ghost_name ≡ l.initial.self.records.ghost_name);
      halfway : Halfway G l.rank.grade l.rank.distance l.v l.initial.self.records.now l.self.records.now;
      found : l.found ≡ some_below l.v (gets G l.rank.grade l.rank.distance);
    }
