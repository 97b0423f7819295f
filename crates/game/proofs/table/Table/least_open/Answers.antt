use Rattle.std.proofs.Common.{sym, refl, ◌∙◌, arith, rules}
use borrow.Author.Tests.{tests}
use Rattle.std.proofs.lemmas.Iterator.{YieldsList-from_range, YieldsList-from_map}
use Rattle.std.proofs.lemmas.Iterator.Adapters.{option_map_id}
use Rattle.std.proofs.lemmas.Iterator.Consumers.{YieldsList-from_filter, min_from_yields_List}
use Rattle.parity.specs.Grading.{level}
use Rattle.game.proofs.Advance.{is_open, least_open_is}
use Rattle.game.proofs.table.Table.least_open.Goals as goal

pub returns : goal.returns
returns g c =
    let G = g.X.Arena.meaning c.args.self.now.arena.now in
    let l = c.args.self.now.records.now in
    let n = G.count in
    least_open_is G l c.min.result
    (sym (option_map_id c.min.result)
    ∙ min_from_yields_List _ _ c.min.ensures.ran
    (YieldsList-from_map _ (level G) (YieldsList-from_filter _ (is_open G l) (YieldsList-from_range 0 n n (cc) (omega arith)) refl (λ x b q k. search (rules, tests))) refl (λ x r q k. search rules)))
