use Rattle.std.proofs.Common.{◌≡◌, ℕ, Bool, true, false, get_or, arith, rules}
use borrow.Author.Tests.{tests}
use Rattle.std.proofs.lemmas.Iterator.{YieldsList-from_range, cases_from_all}
use Rattle.game.specs.Outcomes.{blank}
use Rattle.game.specs.Filling.{is_behind}
use Rattle.game.proofs.Ranges.{all_is}
use Rattle.game.proofs.table.Table.all_behind.Goals as goal

pub returns : goal.returns
returns g c =
    let G = g.X.Arena.meaning c.args.self.now.arena.now in
    let n = G.degree c.args.v in
    let f : ℕ → Bool = λ i. is_behind c.args.rank.grade c.args.rank.distance (get_or c.args.self.now.records.now (G.successor c.args.v i) blank) in
    all_is n f c.all.result
    (cases_from_all _ _ c.all.result (λ i. f i ≡ true) (λ i. f i ≡ false) c.all.ensures.ran (YieldsList-from_range 0 n n (cc) (omega arith)) (λ x q k. search (rules, tests)) (λ x q k. search (rules, tests)))
