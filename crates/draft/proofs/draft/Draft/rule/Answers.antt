-- A draft with a rule set keeps what drafts keep.
use Rattle.std.proofs.Common.{◌≡◌, ◌<◌, get_or, set, sym, refl, subst, rules}
use Rattle.std.proofs.lemmas.List.{get_or_read_under}
use Rattle.draft.specs.Automaton.{state_count, node_count, blank}
use Rattle.draft.specs.Calls.{with_states, ruled}
use Rattle.draft.specs.Meaning.{meaning}
use Rattle.draft.specs.WellFormed.{WellFormed}
use Rattle.draft.proofs.Drafts.{draft_well_formed}
use Rattle.draft.proofs.Keeps.{rule_keeps}
use Rattle.draft.proofs.draft.Draft.rule.Goals as goal

pub invariant_of-self : goal.invariant_of-self
invariant_of-self c =
    let a = meaning c.args.self.now in
    let q< : c.from.result < state_count a = search rules in
    let l< : c.from-2.result < a.letters = search rules in
    let x< : c.in_ok-node.node < node_count a = search rules in
    let e : c.index_mut.result.now ≡ get_or a.states c.from.result blank = get_or_read_under _ _ _ _ blank c.index_mut.ensures.value q< refl in
    let k = rule_keeps a c.from.result c.from-2.result c.in_ok-node.node (draft_well_formed c.args.self.now) q< l< x< in
    let w : WellFormed (with_states a (set a.states c.from.result (ruled c.index_mut.result.now c.from-2.result c.in_ok-node.node))) =
    subst (λ s. WellFormed (with_states a (set a.states c.from.result (ruled s c.from-2.result c.in_ok-node.node)))) (sym e) k in
    search rules
