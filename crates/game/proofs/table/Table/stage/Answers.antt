use Rattle.std.proofs.Common.{◌<◌, sym, ◌∙◌, arith, rules}
use Rattle.game.proofs.Rounds.{found_below, stage_ends}
use Rattle.game.proofs.table.Table.stage.Goals as goal

pub overflow_add-rank : goal.overflow_add-rank
overflow_add-rank g c =
    let b = g.X.Arena.bounds c.loop-rank.self.arena.now in
    let s : c.loop-rank.rank.distance < 65535 = omega (arith, found_below _ b _ _ (sym c.round.ensures.found ∙ c.loop-rank-test.true), b.few) in
    search rules

pub loop-rank-smaller : goal.loop-rank-smaller
loop-rank-smaller g c =
    let b = g.X.Arena.bounds c.loop-rank.self.arena.now in
    omega (arith, found_below _ b _ _ (sym c.round.ensures.found ∙ c.loop-rank-test.true), b.few)

pub returns-clause-filled : goal.returns-clause-filled
returns-clause-filled g c v v< =
    let b = g.X.Arena.bounds c.args.self.now.arena.now in
    let round = rw (c.loop-rank.invariant.same.0, c.loop-rank.invariant.grade) at c.round.ensures in
    round.filled v v< ∙ stage_ends _ b c.args.p c.loop-rank.rank.distance (sym round.found ∙ c.loop-rank-test.false) v v<
