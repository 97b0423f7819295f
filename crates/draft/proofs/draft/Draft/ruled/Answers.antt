-- The chain tests the letters in order.
use Rattle.std.proofs.Common.{ℕ, is_some, ◌∙◌, arith, rules}
use Rattle.std.proofs.lemmas.Iterator.{YieldsList-from_range}
use Rattle.std.proofs.lemmas.Iterator.Search.{all_from_yields_List}
use Rattle.draft.specs.Automaton.{rule_of, is_ruled}
use Rattle.draft.specs.Meaning.{meaning}
use Rattle.draft.proofs.AllBelow.{all_in_range}
use Rattle.draft.proofs.draft.Draft.ruled.Goals as goal

pub returns : goal.returns
unfolding is_ruled
returns c =
    let n = (meaning c.args.self.now).letters in
    let f = λ (letter : ℕ). is_some (rule_of (meaning c.args.self.now) c.args.state letter) in
    all_from_yields_List f _ _ _ c.all.ensures.ran (YieldsList-from_range 0 n n (cc) (omega arith)) (λ x b q k. search rules) ∙ all_in_range n f
