-- Each letter's rule is tested.
use Rattle.std.proofs.Common.{ℕ, ◌∙◌, refl, rules, arith}
use Rattle.std.proofs.lemmas.Iterator.{YieldsList-from_range}
use Rattle.std.proofs.lemmas.Iterator.Search.{all_from_yields_List}
use Rattle.draft.specs.Automaton.{priority_of, rule_of}
use Rattle.draft.specs.Meaning.{meaning}
use Rattle.inclusion.specs.Stratified.{rule_low, state_low}
use Rattle.draft.proofs.AllBelow.{all_in_range}
use Rattle.contain.proofs.strata.state_is_low.Goals as goal

pub returns : goal.returns
unfolding state_low
returns c =
    let a = meaning c.args.draft.now in
    let low = λ (letter : ℕ). rule_low a (priority_of a c.args.state) (rule_of a c.args.state letter) in
    all_from_yields_List low _ _ _ c.all.ensures.ran (YieldsList-from_range 0 c.letters.result a.letters refl (omega arith)) (λ x b q k. search rules)
    ∙ all_in_range a.letters low
