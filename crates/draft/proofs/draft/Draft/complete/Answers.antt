-- The chain tests the states in order.
use Rattle.std.proofs.Common.{◌∙◌, arith, rules}
use Rattle.std.proofs.lemmas.Iterator.{YieldsList-from_range}
use Rattle.std.proofs.lemmas.Iterator.Search.{all_from_yields_List}
use Rattle.draft.specs.Automaton.{state_count, is_ruled, is_complete}
use Rattle.draft.specs.Meaning.{meaning}
use Rattle.draft.proofs.AllBelow.{all_in_range}
use Rattle.draft.proofs.draft.Draft.complete.Goals as goal

pub returns : goal.returns
unfolding is_complete
returns c =
    let n = state_count (meaning c.args.self.now) in
    let f = is_ruled (meaning c.args.self.now) in
    all_from_yields_List f _ _ _ c.all.ensures.ran (YieldsList-from_range 0 n n (cc) (omega arith)) (λ x b q k. search rules) ∙ all_in_range n f
