use Rattle.std.proofs.Common.{◌+◌, Some, None, refl, ◌∙◌, arith}
use Rattle.game.proofs.Advance.{least_open_is, none_yet, all_done, rises, advance, small_open, no_lower}
use Rattle.game.proofs.table.Table.rank.Goals as goal

pub loop-p-init : goal.loop-p-init
loop-p-init g c = record {
  same = (refl, refl);
  filled = (0, omega arith, none_yet _ (g.X.Arena.bounds c.clear.new.self.arena.now) _ (rw (← c.clear.ensures.same.0) at c.clear.ensures.cleared));
  kept = λ v h. refl;
}

pub stage-requires : goal.stage-requires
stage-requires g c =
    let G = g.X.Arena.meaning c.loop-p.self.arena.now in
    let b = g.X.Arena.bounds c.loop-p.self.arena.now in
    let h = rw (← c.loop-p.invariant.same.0) at c.loop-p.invariant.filled in
    let least = rw c.in-Some.is at c.least_open.ensures in
    record { small = small_open G b _ _ least; filled = advance G b h.0 _ h.1 h.2 (Some c.in-Some.p) least }

pub loop-p-smaller : goal.loop-p-smaller
loop-p-smaller g c =
    let G = g.X.Arena.meaning c.clear.new.self.arena.now in
    let b = g.X.Arena.bounds c.clear.new.self.arena.now in
    let before = c.loop-p.self.records.now in
    let after = c.stage.new.self.records.now in
    let p = c.in-Some.p in
    let least = rw (c.in-Some.is, c.loop-p.invariant.same.0) at c.least_open.ensures in
    let stage = rw c.loop-p.invariant.same.0 at c.stage.ensures in
    let small = small_open G b before p least in
    let low = no_lower G b before _ p (least_open_is G before _ refl) least in
    omega (arith, rises G b (p + 1) after (omega arith) stage.filled _ (least_open_is G after _ refl))

pub loop-p-preserved : goal.loop-p-preserved
loop-p-preserved g c =
    let b = g.X.Arena.bounds c.clear.new.self.arena.now in
    let least = rw (c.in-Some.is, c.loop-p.invariant.same.0) at c.least_open.ensures in
    let stage = rw c.loop-p.invariant.same.0 at c.stage.ensures in
    let small = small_open _ b c.loop-p.self.records.now c.in-Some.p least in
    record {
      same = (stage.same.0, stage.same.1 ∙ c.loop-p.invariant.same.1);
      filled = (c.in-Some.p + 1, omega arith, stage.filled);
      kept = λ v h. stage.kept v h ∙ c.loop-p.invariant.kept v h;
    }

pub returns-clause-ranked : goal.returns-clause-ranked
returns-clause-ranked g c =
    let G = g.X.Arena.meaning c.args.self.now.arena.now in
    let b = g.X.Arena.bounds c.args.self.now.arena.now in
    let h = rw c.clear.ensures.same.0 at c.loop-p.invariant in
    let least = rw (c.in_default.is, h.same.0) at c.least_open.ensures in
    all_done G b _ c.loop-p.self.records.now (omega arith) (advance G b h.filled.0 _ h.filled.1 h.filled.2 None least)
