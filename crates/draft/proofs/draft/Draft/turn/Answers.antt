-- A turned draft keeps what drafts keep.
use Rattle.std.proofs.Common.{◌≡◌, true, vec_items, rules}
use Rattle.draft.specs.Calls.{can_turn, dual, raised}
use Rattle.draft.specs.Meaning.{meaning}
use Rattle.draft.proofs.Drafts.{draft_well_formed}
use Rattle.draft.proofs.InPlace.{refilled_map}
use Rattle.draft.proofs.Keeps.{turn_keeps_as}
use Rattle.draft.proofs.draft.Draft.turn.Goals as goal

pub invariant_of-self : goal.invariant_of-self
invariant_of-self c =
    let s = refilled_map raised c.args.self.now.states _ _ c.deref_mut.ensures.value c.raise_states.ensures in
    let n = refilled_map dual c.args.self.now.nodes _ _ c.deref_mut-2.ensures.value c.turn_nodes.ensures in
    let can : can_turn (vec_items c.args.self.now.states) ≡ true = search rules in
    let w = turn_keeps_as (meaning c.args.self.now) _ _ (draft_well_formed c.args.self.now) can s n in
    search rules
