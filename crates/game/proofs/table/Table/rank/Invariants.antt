use Rattle.std.proofs.Common.{◌≡◌, ℕ, ◌-◌, ◌≤◌}
use Rattle.game.specs.Filling.{Filled, Kept, or_end}
use Rattle.game.proofs.Advance.{least_level}
use Rattle.game.proofs.table.Table.rank.Given as goal

abbrev pub invariant-loop-p : goal.invariant-loop-p
invariant-loop-p g l =
    let G = g.X.Arena.meaning l.initial.self.arena.now in
    record {
      same : (l.self.arena ≡ l.initial.self.arena) × (l.self.records.ghost_name ≡ l.initial.self.records.ghost_name);
      filled : (q : ℕ) × (q ≤ 10000) × Filled G q 0 l.self.records.now;
      kept : Kept G.count l.initial.self.records.now l.self.records.now;
    }

abbrev pub decreases-loop-p : goal.decreases-loop-p
decreases-loop-p g l = 65536 - or_end (least_level (g.X.Arena.meaning l.initial.self.arena.now) l.self.records.now)
