-- Each state is tested.
use Rattle.std.proofs.Common.{◌∙◌, refl, rules, arith}
use Rattle.std.proofs.lemmas.Iterator.{YieldsList-from_range}
use Rattle.std.proofs.lemmas.Iterator.Search.{all_from_yields_List}
use Rattle.draft.specs.Automaton.{state_count}
use Rattle.draft.specs.Meaning.{meaning}
use Rattle.inclusion.specs.Stratified.{is_stratified, state_low}
use Rattle.draft.proofs.AllBelow.{all_in_range}
use Rattle.contain.proofs.strata.stratified.Goals as goal

pub returns : goal.returns
unfolding is_stratified
returns c =
    let a = meaning c.args.draft.now in
    all_from_yields_List (state_low a) _ _ _ c.all.ensures.ran (YieldsList-from_range 0 c.state_count.result (state_count a) refl (omega arith)) (λ x b q k. search rules)
    ∙ all_in_range (state_count a) (state_low a)
