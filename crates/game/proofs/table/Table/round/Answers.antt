use Rattle.std.proofs.Common.{◌≡◌, sym, ap, ◌∙◌, arith, rules}
use Rattle.parity.specs.Below.{some_below}
use Rattle.game.specs.Filling.{gets}
use Rattle.game.proofs.Ranges.{some_new, some_same}
use Rattle.game.proofs.Passed.{passed_over, passed_set}
use Rattle.game.proofs.Rounds.{next_new, next_old, tells}
use Rattle.game.proofs.table.Table.round.Goals as goal
use Rattle.game.proofs.table.Table.round.Goals.{then-joins, else-joins}

pub loop-v-preserved : goal.loop-v-preserved
loop-v-preserved g c =
    let G = g.X.Arena.meaning c.args.self.now.arena.now in
    let b = g.X.Arena.bounds c.args.self.now.arena.now in
    let v = c.loop-v.v in
    let h = c.loop-v.invariant.halfway in
    let room = rw c.loop-v.invariant.same.0 at c.loop-v.self.room in
    let is : c.joins.result ≡ gets G c.args.rank.grade c.args.rank.distance v = rw c.loop-v.invariant.same.0 at c.joins.ensures ∙ tells G b _ _ v _ _ (omega arith) h c.requires.small in
    elim c.if-joins.branch [
      | then-joins w ↦
          (let t = sym is ∙ w.if-joins.true in
          record {
            same = search rules;
            halfway = rw w.self-is (passed_set _ _ _ _ v _ (omega arith) h (omega arith) _ (w.unnamed.ensures ∙ next_new G b _ _ v t));
            found = w.found-is ∙ sym (some_new v _ t);
          })
      | else-joins w ↦
          (let t = sym is ∙ w.if-joins.false in
          record {
            same = search rules;
            halfway = rw w.self-is (passed_over _ _ _ _ v _ (omega arith) h (next_old G b _ _ v t));
            found = w.found-is ∙ c.loop-v.invariant.found ∙ sym (some_same v _ t);
          })
    ]

pub returns-clause-found : goal.returns-clause-found
returns-clause-found g c = c.loop-v.invariant.found ∙ ap (λ n. some_below n (gets (g.X.Arena.meaning c.args.self.now.arena.now) c.args.rank.grade c.args.rank.distance)) (omega arith)
