use Rattle.std.proofs.Common.{◌≡◌, ℕ, Bool, true, false, get_or, arith, rules}
use borrow.Author.Tests.{tests}
use Rattle.std.proofs.lemmas.Iterator.{YieldsList-from_range, cases_from_any}
use Rattle.game.specs.Outcomes.{blank}
use Rattle.game.specs.Filling.{is_near}
use Rattle.game.proofs.Ranges.{any_is}
use Rattle.game.proofs.table.Table.some_near.Goals as goal

pub returns : goal.returns
returns g c =
    let G = g.X.Arena.meaning c.args.self.now.arena.now in
    let n = G.degree c.args.v in
    let f : ℕ → Bool = λ i. is_near c.args.rank.grade c.args.rank.distance (get_or c.args.self.now.records.now (G.successor c.args.v i) blank) in
    any_is n f c.any.result
    (cases_from_any _ _ c.any.result (λ i. f i ≡ true) (λ i. f i ≡ false) c.any.ensures.ran (YieldsList-from_range 0 n n (cc) (omega arith)) (λ x q k. search (rules, tests)) (λ x q k. search (rules, tests)))
