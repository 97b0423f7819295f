-- A draft with one more state keeps what drafts keep.
use Rattle.std.proofs.Common.{◌<◌, vec_items, sym, subst, arith, rules}
use Rattle.draft.specs.Automaton.{state_count}
use Rattle.draft.specs.Calls.{with_states}
use Rattle.draft.specs.Meaning.{meaning}
use Rattle.draft.specs.WellFormed.{WellFormed}
use Rattle.draft.proofs.Drafts.{draft_well_formed}
use Rattle.draft.proofs.Keeps.{state_keeps}
use Rattle.draft.proofs.draft.Draft.state.Goals as goal

pub invariant_of-self : goal.invariant_of-self
invariant_of-self c =
    let few : state_count (meaning c.args.self.now) < 32 = omega (arith, c.args.self.now.states.ok.0) in
    let k = state_keeps (meaning c.args.self.now) c.args.priority (draft_well_formed c.args.self.now) c.if-priority-gt999.false few in
    let w : WellFormed (with_states (meaning c.args.self.now) (vec_items c.push_reserved.new.self)) = subst (λ l. WellFormed (with_states (meaning c.args.self.now) l)) (sym c.push_reserved.ensures.items) k in
    search rules
