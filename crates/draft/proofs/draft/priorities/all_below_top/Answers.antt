-- The chain tests the states in order.
use Rattle.std.proofs.Common.{ltb, ◌∙◌, rules}
use Rattle.std.proofs.lemmas.Iterator.{YieldsList-from_slice}
use Rattle.std.proofs.lemmas.Iterator.Search.{all_from_yields_List}
use Rattle.draft.specs.declared.parts.State.{State}
use Rattle.draft.specs.Automaton.{blank}
use Rattle.draft.specs.Calls.{can_turn}
use Rattle.draft.proofs.AllBelow.{all_listed}
use Rattle.draft.proofs.draft.priorities.all_below_top.Goals as goal

pub returns : goal.returns
unfolding can_turn
returns c =
    let low = λ (s : State). ltb s.priority 999 in
    all_from_yields_List low _ _ _ c.all.ensures.ran (YieldsList-from_slice c.args.states.now cc) (λ x b q k. search rules) ∙ all_listed low c.args.states.now blank
