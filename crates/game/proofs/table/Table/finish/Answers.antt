use Rattle.std.proofs.Common.{◌<◌, ◌∙◌, arith, rules}
use Rattle.parity.proofs.Moves.{move_le}
use Rattle.game.specs.LastPass.{grade_in, distance_in}
use Rattle.game.proofs.Passed.{passed_set}
use Rattle.game.proofs.Finish.{finished_is}
use Rattle.game.proofs.table.Table.finish.Goals as goal

pub overflow_cast-self : goal.overflow_cast-self
overflow_cast-self g c =
    let a = c.loop-v.self.arena.now in
    let l = c.loop-v.self.records.now in
    let small : c.choice.result < 256 = omega (arith, c.choice.ensures, move_le (g.X.Arena.meaning a) (grade_in l) (distance_in l) c.loop-v.v, (g.X.Arena.bounds a).limit c.loop-v.v) in
    search rules

pub loop-v-preserved : goal.loop-v-preserved
loop-v-preserved g c =
    let G = g.X.Arena.meaning c.args.self.now.arena.now in
    let b = g.X.Arena.bounds c.args.self.now.arena.now in
    let l = c.loop-v.self.records.now in
    let v = c.loop-v.v in
    let room = rw c.loop-v.invariant.same.0 at c.loop-v.self.room in
    let favours = rw c.loop-v.invariant.same.0 at c.favours.ensures in
    let choice = rw c.loop-v.invariant.same.0 at c.choice.ensures in
    record {
      same = c.loop-v.invariant.same;
      finishing =
          passed_set _ _ _ _ v _ (omega arith) c.loop-v.invariant.finishing (omega arith) _
          ((λ i. record { winner = favours i; grade = grade_in l v; distance = distance_in l v; choice = choice i }) ∙ finished_is G b v _ _ (omega arith) c.loop-v.invariant.finishing);
    }
